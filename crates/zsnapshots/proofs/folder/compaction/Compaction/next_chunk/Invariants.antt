use Rattle.std.proofs.Common.{◌-◌, length}
use Rattle.zsnapshots.proofs.folder_lemmas.Chunks.{IsSoFar}
use Rattle.zsnapshots.proofs.folder.compaction.Compaction.next_chunk.Given as goal

-- so far these records are in the chunk
abbrev pub invariant-loop-self : goal.invariant-loop-self
invariant-loop-self l = IsSoFar l.fn.self l.self l.text.items

abbrev pub decreases-loop-self : goal.decreases-loop-self
decreases-loop-self l = 65536 - length l.text.items
