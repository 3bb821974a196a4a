use Rattle.std.proofs.Common.{◌≤◌, ◌-◌, length}
use Rattle.zjournal.proofs.Scan.{ReadsTo}
use Rattle.zjournal.proofs.batches.text_end.Given as goal

abbrev pub invariant-loop-at : goal.invariant-loop-at
invariant-loop-at l = record { within : l.at ≤ length l.bytes; reads : ReadsTo l.bytes l.start l.at }

abbrev pub decreases-loop-at : goal.decreases-loop-at
decreases-loop-at l = length l.bytes - l.at
