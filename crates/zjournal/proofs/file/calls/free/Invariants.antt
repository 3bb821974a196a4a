use Rattle.zjournal.proofs.file.calls.free.Given as goal

abbrev pub decreases-loop-left : goal.decreases-loop-left
decreases-loop-left l = l.left
