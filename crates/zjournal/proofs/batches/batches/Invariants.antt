use Rattle.std.proofs.Common.{◌≡◌, ◌-◌, List, ℕ, length}
use Rattle.zjournal.specs.Scan.{AreBatches, joined}
use Rattle.zjournal.proofs.batches.batches.Given as goal

abbrev pub invariant-loop-place : goal.invariant-loop-place
invariant-loop-place l = (batches : List (List ℕ)) × AreBatches l.bytes l.fn.start batches l.place × (l.text.items ≡ joined batches)

abbrev pub decreases-loop-place : goal.decreases-loop-place
decreases-loop-place l = length l.bytes - l.place.end
