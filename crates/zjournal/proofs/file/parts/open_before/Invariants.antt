use Rattle.zjournal.proofs.file.parts.open_before.Given as goal

abbrev pub decreases-loop-number : goal.decreases-loop-number
decreases-loop-number g l = l.number
