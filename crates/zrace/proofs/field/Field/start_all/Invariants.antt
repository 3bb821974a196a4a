use Rattle.std.proofs.Common.{◌≡◌}
use Rattle.zrun.specs.Members.{clients_run}
use Rattle.zrace.proofs.field.Field.start_all.Given as goal

abbrev pub invariant-loop-number : goal.invariant-loop-number
invariant-loop-number g l =
    (clients_run l.self.clients ≡ clients_run l.initial.self.clients)
    × (l.self.versions ≡ l.initial.self.versions)
    × (l.race ≡ l.initial.race)
