use Rattle.std.proofs.Common.{◌≡◌, ◌<◌, ℕ, Option, get_or}
use Rattle.std.specs.Prelude.{IsSome}
use Rattle.zrace.proofs.outcome.Outcome.is_good.Given as goal

abbrev pub invariant-loop-node : goal.invariant-loop-node
invariant-loop-node l = ((k : ℕ) (none : Option ℕ) → k < l.node → IsSome (get_or l.self.versions.items k none)) × (l.self ≡ l.initial.self)
