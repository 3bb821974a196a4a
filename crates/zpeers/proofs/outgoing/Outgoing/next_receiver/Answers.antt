use Rattle.std.proofs.Common.{◌≡◌, ◌<◌, ℕ, [], length, get_or, refl, ap, sym, subst, ◌∙◌, arith}
use Rattle.std.proofs.lemmas.List.{get_or_read}
use Rattle.zprotocol.specs.declared.limits.TheConstants.{PROCESSES}
use Rattle.zpeers.specs.Outgoing.{OutgoingView, NoneWaits, place_after}
use Rattle.zpeers.proofs.Receivers.{none_yet, one_more, is_next, if_some}
use Rattle.zpeers.proofs.outgoing.Outgoing.next_receiver.Goals as goal

pub loop-place-init : goal.loop-place-init
loop-place-init c =
    subst (λ (low : ℕ). NoneWaits c.args.self.now (place_after c.args.after) low) (sym c.place_after-place.ensures)
    (none_yet c.args.self.now (place_after c.args.after))

pub loop-place-preserved : goal.loop-place-preserved
loop-place-preserved c =
    let place = c.loop-place.place in
    let all : length c.self.inside.queues.items ≡ PROCESSES = c.self.invariant in
    let inside : place < length c.self.inside.queues.items = omega (arith, all, c.loop-place-test.true) in
    let read = get_or_read c.self.inside.queues.items place c.index.result.now inside c.index.ensures [] in
    let seen = ap (λ (o : OutgoingView). get_or o.queues place []) c.self.view_is in
    one_more c.args.self.now (place_after c.args.after) place c.loop-place.invariant
    (sym (read ∙ seen) ∙ c.is_empty.ensures.yes c.if-not-is_empty.false)

pub returns-then-not-is_empty-clause-some : goal.returns-then-not-is_empty-clause-some
returns-then-not-is_empty-clause-some c =
    let place = c.loop-place.place in
    let all : length c.self.inside.queues.items ≡ PROCESSES = c.self.invariant in
    let inside : place < length c.self.inside.queues.items = omega (arith, all, c.loop-place-test.true) in
    let read = get_or_read c.self.inside.queues.items place c.index.result.now inside c.index.ensures [] in
    let seen = ap (λ (o : OutgoingView). get_or o.queues place []) c.self.view_is in
    if_some _ _ c.at.result (λ to is.
    is_next c.args.self.now c.args.after (place_after c.args.after) place to refl (omega (arith, c.loop-place-test.true))
    (omega (arith, c.loop-place.auto.place, c.place_after-place.ensures)) c.loop-place.invariant
    (λ empty. c.is_empty.ensures.no c.if-not-is_empty.true (read ∙ seen ∙ empty)) is) c.at.ensures.some

pub returns-clause-none : goal.returns-clause-none
returns-clause-none c = λ p low high. c.loop-place.invariant p low (omega (arith, high, c.loop-place-test.false))
