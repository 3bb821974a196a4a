use Rattle.std.proofs.Common.{◌≡◌, drop}
use Rattle.zprotocol.specs.traces.Traces.{stamps_rise_from}
use Rattle.zaudit.proofs.stamps.rise_above.Given as goal

abbrev pub invariant-loop-event : goal.invariant-loop-event
invariant-loop-event l = stamps_rise_from l.before (drop l.event-index l.events) ≡ stamps_rise_from l.fn.last l.events
