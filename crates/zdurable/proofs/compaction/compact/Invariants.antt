use Rattle.std.proofs.Common.{ℕ, List, ◌-◌, ◌≤◌, length}
use Rattle.zjournal.specs.Journal.{device_of}
use Rattle.zsnapshots.specs.folder.Texts.{row_records}
use Rattle.zdurable.proofs.Renewing.{AreChunks, IsWriting}
use Rattle.zdurable.proofs.compaction.compact.Given as goal

abbrev pub invariant-loop-text : goal.invariant-loop-text
invariant-loop-text g l =
    (done : List (List ℕ))
    × IsWriting g.D.Device.seen g.D.Device.may_leave g.D.Device.beside g.D.Device.moment g.D.Device.left_since 1 l.fn.journal l.journal done
    × AreChunks l.tree.tree l.text done
    × (g.D.Device.faults (device_of l.fn.journal) ≤ g.D.Device.faults (device_of l.journal))

abbrev pub decreases-loop-text : goal.decreases-loop-text
decreases-loop-text g l = length (row_records l.tree.tree) - l.text.written
