use Rattle.std.specs.BinaryHeap.{heap_items, IsHeap}
use Rattle.zaudit.specs.support.Heads.{head_cmp, HoldsHeads}
use Rattle.zaudit.proofs.heads.heads_of.Given as goal

abbrev pub invariant-loop-place : goal.invariant-loop-place
invariant-loop-place l = IsHeap head_cmp (heap_items l.heads) × HoldsHeads l.traces l.read l.place (heap_items l.heads)
