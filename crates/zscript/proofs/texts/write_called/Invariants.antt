use Rattle.std.proofs.Common.{◌≡◌, drop}
use Rattle.zscript.specs.Line.{reply_in}
use Rattle.zscript.proofs.texts.write_called.Given as goal

abbrev pub invariant-loop-event : goal.invariant-loop-event
invariant-loop-event l = (reply_in l.own l.history ≡ reply_in l.own (drop l.event-index l.history)) × (l.out ≡ l.initial.out)
