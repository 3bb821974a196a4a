use Rattle.std.proofs.Common.{◌≡◌, ◌≤◌, length, take}
use Rattle.zprotocol.specs.traces.Traces.{reported_of}
use Rattle.zaudit.proofs.records.reports.Given as goal

abbrev pub invariant-loop-event : goal.invariant-loop-event
invariant-loop-event l = (reported_of l.client (take l.event-index l.history) ≡ take l.at l.seen) × (l.at ≤ length l.seen)
