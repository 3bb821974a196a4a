use Rattle.std.proofs.Common.{◌≡◌, [], ◌∷◌, take}
use Rattle.std.specs.FinSet.{retain}
use Rattle.zwatches.specs.Watches.{place}
use Rattle.zwatches.specs.support.Groups.{is_left}
use Rattle.zwatches.specs.support.Nested.{AreFound}
use Rattle.zwatches.proofs.firing.remove_at.Given as goal

-- those of the connections so far are removed, and each other has its path
abbrev pub invariant-loop-connection : goal.invariant-loop-connection
invariant-loop-connection l = record {
  found : AreFound l.paths.paths.entries l.watches;
  gone : l.watches ≡ retain l.initial.watches (is_left (take l.connection-index l.connections) (place l.path l.kind ∷ []));
}
