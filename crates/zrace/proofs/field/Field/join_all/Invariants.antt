use Rattle.std.proofs.Common.{◌≡◌, length}
use Rattle.zrun.specs.Members.{clients_run}
use Rattle.zrace.specs.Shown.{AreShownAmong}
use Rattle.zrace.proofs.field.Field.join_all.Given as goal

abbrev pub invariant-loop-handle : goal.invariant-loop-handle
invariant-loop-handle g l =
    (clients_run l.self.clients ≡ clients_run l.initial.self.clients)
    × (length l.self.versions.items ≡ length l.initial.self.versions.items)
    × (AreShownAmong l.initial.self.clients l.initial.self.versions.items → AreShownAmong l.self.clients l.self.versions.items)

abbrev pub decreases-loop-handle : goal.decreases-loop-handle
decreases-loop-handle g l = length l.self.handles.items
