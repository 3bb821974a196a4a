use Rattle.std.proofs.Common.{◌-◌, length}
use Rattle.zjournal.specs.Blocks.{AreTexts}
use Rattle.zsnapshots.specs.folder.Texts.{row_records}
use Rattle.zdurable.proofs.Renewing.{AreChunks, texts_in}
use Rattle.zdurable.proofs.beginning.chunks_of.Given as goal

abbrev pub invariant-loop-chunks : goal.invariant-loop-chunks
invariant-loop-chunks l = AreChunks l.tree.tree l.text (texts_in l.chunks.items) × AreTexts (texts_in l.chunks.items)

abbrev pub decreases-loop-chunks : goal.decreases-loop-chunks
decreases-loop-chunks l = length (row_records l.tree.tree) - l.text.written
