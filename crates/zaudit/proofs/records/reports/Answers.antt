use Rattle.std.proofs.Common.{sym, ap, ◌∙◌}
use Rattle.zprotocol.specs.traces.Traces.{client_of}
use Rattle.zaudit.proofs.ClientRecords.{before_end, ends_early, is_next}
use Rattle.zaudit.proofs.records.reports.Goals as goal

pub returns-then-at-seen-clause-no : goal.returns-then-at-seen-clause-no
returns-then-at-seen-clause-no c over =
    ends_early c.args.client c.args.history.now c.args.seen.now c.loop-event.event-index c.loop-event.at c.event-item.result c.loop-event-test.true
    (ap client_of (sym c.event-item.is) ∙ (sym c.client_of.ensures ∙ c.if-client_of-client.true)) c.loop-event.invariant.0 c.if-at-seen.true

pub returns-then-not-is_same_event-clause-no : goal.returns-then-not-is_same_event-clause-no
returns-then-not-is_same_event-clause-no c over same =
    let next =
    is_next c.args.client c.args.history.now c.args.seen.now c.loop-event.event-index c.loop-event.at c.event-item.result
    c.index-seen-at.result c.loop-event-test.true
    (ap client_of (sym c.event-item.is) ∙ (sym c.client_of.ensures ∙ c.if-client_of-client.true)) c.loop-event.invariant.0
    (before_end c.loop-event.at _ c.loop-event.invariant.1 c.if-at-seen.false) same in
    c.is_same_event.ensures.no c.if-not-is_same_event.true (c.event-item.is ∙ (next ∙ sym c.index-seen-at.is))
