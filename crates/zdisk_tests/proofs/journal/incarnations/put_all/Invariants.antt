use Rattle.zjournal.specs.Journal.{IsSound}
use Rattle.zdisk_tests.proofs.journal.incarnations.put_all.Given as goal

abbrev pub invariant-loop-i : goal.invariant-loop-i
invariant-loop-i g l = IsSound g.D.Device.seen g.D.Device.may_leave l.journal
