use Rattle.zjournal.specs.Renewal.{IsInRenewal}
use Rattle.zdisk_tests.proofs.journal.renewals.renew.Given as goal

abbrev pub invariant-loop-i : goal.invariant-loop-i
invariant-loop-i g l = IsInRenewal g.D.Device.seen g.D.Device.may_leave g.D.Device.beside l.journal
