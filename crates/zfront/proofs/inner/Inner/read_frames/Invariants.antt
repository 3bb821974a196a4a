use Rattle.std.proofs.Common.{List, ℕ, length}
use Rattle.zfront.specs.Reading.{Cuts, HandlesAll}
use Rattle.zfront.proofs.inner.Inner.read_frames.Given as goal

abbrev pub invariant-loop-phase : goal.invariant-loop-phase
invariant-loop-phase g l =
    (frames : List (List ℕ)) × Cuts l.fn.came frames l.rest × HandlesAll frames l.fn.connection l.fn.self l.self

abbrev pub decreases-loop-phase : goal.decreases-loop-phase
decreases-loop-phase g l = length l.rest
