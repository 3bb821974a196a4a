use Rattle.std.proofs.Common.{◌≡◌, ◌<◌, ◌≤◌, ℕ, refl, sym, ap, subst, ◌∙◌, arith}
use Rattle.std.proofs.lemmas.Result.{err_from_is_err_and}
use Rattle.zprotocol.specs.declared.limits.TheConstants.{PROCESSES}
use Rattle.zprotocol.specs.Places.{place_of}
use Rattle.zprotocol.proofs.Places.{place_of-process_at}
use Rattle.znode.specs.Node.{SeatView}
use Rattle.znode.specs.Turns.{HasLink}
use Rattle.znode.proofs.node_lemmas.Sending.{IsSendingAll, all_begins, all_more, all_done, any_long, has_link}
use Rattle.znode.proofs.turn.send_all.Goals as goal

pub loop-place-init : goal.loop-place-init
loop-place-init c = (all_begins c.args.own c.args.seat.now.outgoing c.args.out.now.items, refl)

pub loop-place-preserved : goal.loop-place-preserved
loop-place-preserved c =
    let some : 1 ≤ c.loop-place.place = omega arith in
    let small : c.loop-place.place < PROCESSES = omega arith in
    let link : HasLink c.in-Some.to = subst HasLink (sym c.in-Some.ensures.some) (has_link c.loop-place.place some small) in
    let at : place_of c.in-Some.to ≡ c.loop-place.place = ap place_of c.in-Some.ensures.some ∙ place_of-process_at c.loop-place.place small in (
      all_more c.args.own c.in-Some.to c.args.seat.now.outgoing c.loop-place.seat.outgoing c.send_to.new.seat.outgoing
          c.args.out.now.items c.loop-place.out.items c.send_to.new.out.items c.loop-place.place c.loop-place.invariant.0 link at
          c.in_ok-send_to.ensures.taken,
      c.send_to.ensures.rest ∙ ap (λ (s : SeatView). record s { outgoing = c.send_to.new.seat.outgoing }) c.loop-place.invariant.1,
    )

pub returns-in_err-send_to-clause-rest : goal.returns-in_err-send_to-clause-rest
returns-in_err-send_to-clause-rest c =
    c.send_to.ensures.rest ∙ ap (λ (s : SeatView). record s { outgoing = c.send_to.new.seat.outgoing }) c.loop-place.invariant.1

pub returns-in_err-send_to-clause-fault : goal.returns-in_err-send_to-clause-fault
returns-in_err-send_to-clause-fault c =
    let some : 1 ≤ c.loop-place.place = omega arith in
    let small : c.loop-place.place < PROCESSES = omega arith in
    let link : HasLink c.in-Some.to = subst HasLink (sym c.in-Some.ensures.some) (has_link c.loop-place.place some small) in
    let at : place_of c.in-Some.to ≡ c.loop-place.place = ap place_of c.in-Some.ensures.some ∙ place_of-process_at c.loop-place.place small in
    let p = err_from_is_err_and c.from_residual.result c.from_residual.ensures.1 in
    rw (p.1, p.2) (any_long c.args.own c.in-Some.to c.args.seat.now.outgoing c.loop-place.seat.outgoing c.args.out.now.items
    c.loop-place.out.items c.loop-place.place c.in_err-send_to.field-0.0 c.loop-place.invariant.0 link at c.in_err-send_to.ensures.fault)

pub returns-clause-taken : goal.returns-clause-taken
returns-clause-taken c =
    let all : c.loop-place.place ≡ PROCESSES = omega arith in
    all_done c.args.own c.args.seat.now.outgoing c.loop-place.seat.outgoing c.args.out.now.items c.loop-place.out.items
    (subst (λ (n : ℕ). IsSendingAll c.args.own c.args.seat.now.outgoing c.loop-place.seat.outgoing c.args.out.now.items c.loop-place.out.items n)
    all c.loop-place.invariant.0)

pub returns-clause-rest : goal.returns-clause-rest
returns-clause-rest c = c.loop-place.invariant.1
