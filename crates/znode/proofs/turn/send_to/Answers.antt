use Rattle.std.proofs.Common.{◌≡◌, ℕ, List, refl, sym, ap, subst, ◌∙◌, arith}
use Rattle.std.proofs.lemmas.Result.{err_from_is_err_and}
use Rattle.znode.specs.declared.limits.TheConstants.{MAX_WRITTEN}
use Rattle.znode.specs.Node.{SeatView}
use Rattle.znode.specs.support.Turns.{SendsSome}
use Rattle.znode.proofs.node_lemmas.Sending.{IsSending, sending_begins, sending_more, sending_full, sending_done, long_before}
use Rattle.znode.proofs.turn.send_to.Goals as goal

pub loop-init : goal.loop-init
loop-init c = (sending_begins c.args.own c.args.to c.args.seat.now.outgoing c.args.out.now.items, refl)

pub loop-preserved : goal.loop-preserved
loop-preserved c = (
  sending_more c.args.own c.args.to c.args.seat.now.outgoing c.loop.seat.outgoing c.send_next.new.seat.outgoing
      c.args.out.now.items c.loop.out.items c.send_next.new.out.items c.loop.counter c.loop.invariant.0
      (c.in_ok-send_next.ensures.some c.if-not-branch.false),
  c.send_next.ensures.rest ∙ ap (λ (s : SeatView). record s { outgoing = c.send_next.new.seat.outgoing }) c.loop.invariant.1,
)

pub returns-then-not-branch-clause-taken : goal.returns-then-not-branch-clause-taken
returns-then-not-branch-clause-taken c =
    subst (λ (s : SeatView). SendsSome c.args.own c.args.to c.args.seat.now.outgoing s.outgoing c.args.out.now.items c.send_next.new.out.items)
    (sym (c.in_ok-send_next.ensures.same c.if-not-branch.true))
    (subst (λ (t : List ℕ). SendsSome c.args.own c.args.to c.args.seat.now.outgoing c.loop.seat.outgoing c.args.out.now.items t)
    (sym (c.in_ok-send_next.ensures.out c.if-not-branch.true))
    (sending_done c.args.own c.args.to c.args.seat.now.outgoing c.loop.seat.outgoing c.args.out.now.items c.loop.out.items
    c.loop.counter c.loop.invariant.0 (omega arith)
    (c.in_ok-send_next.ensures.none c.if-not-branch.true)))

pub returns-then-not-branch-clause-rest : goal.returns-then-not-branch-clause-rest
returns-then-not-branch-clause-rest c =
    c.send_next.ensures.rest ∙ ap (λ (s : SeatView). record s { outgoing = c.send_next.new.seat.outgoing }) c.loop.invariant.1

pub returns-in_err-send_next-clause-rest : goal.returns-in_err-send_next-clause-rest
returns-in_err-send_next-clause-rest c =
    c.send_next.ensures.rest ∙ ap (λ (s : SeatView). record s { outgoing = c.send_next.new.seat.outgoing }) c.loop.invariant.1

pub returns-in_err-send_next-clause-fault : goal.returns-in_err-send_next-clause-fault
returns-in_err-send_next-clause-fault c =
    let p = err_from_is_err_and c.from_residual.result c.from_residual.ensures.1 in
    rw (p.1, p.2) (long_before c.args.own c.args.to c.args.seat.now.outgoing c.loop.seat.outgoing c.args.out.now.items c.loop.out.items
    c.loop.counter c.in_err-send_next.field-0.0 c.loop.invariant.0 c.in_err-send_next.ensures.fault)

pub returns-clause-taken : goal.returns-clause-taken
returns-clause-taken c =
    let all : c.loop.counter ≡ MAX_WRITTEN = omega arith in
    sending_full c.args.own c.args.to c.args.seat.now.outgoing c.loop.seat.outgoing c.args.out.now.items c.loop.out.items
    (subst (λ (n : ℕ). IsSending c.args.own c.args.to c.args.seat.now.outgoing c.loop.seat.outgoing c.args.out.now.items c.loop.out.items n)
    all c.loop.invariant.0)

pub returns-clause-rest : goal.returns-clause-rest
returns-clause-rest c = c.loop.invariant.1
