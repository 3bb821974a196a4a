use Rattle.std.proofs.Common.{◌≡◌, Bool, subst, sym, ap, ◌∙◌}
use Rattle.std.specs.Prelude.{is_some}
use Rattle.std.proofs.lemmas.Result.{err_from_is_err_and}
use Rattle.zpeers.specs.Outgoing.{OutgoingView}
use Rattle.znode.specs.Node.{NodeView}
use Rattle.znode.specs.Turns.{Waits}
use Rattle.znode.proofs.node_lemmas.Turning.{waits_of, answers_of, answer_fault}
use Rattle.znode.proofs.node.Node.answer.Goals as goal

pub returns-clause-taken : goal.returns-clause-taken
returns-clause-taken c =
    let same : c.outgoing.result.now ≡ c.send.new.self.seat.outgoing =
    c.outgoing.ensures ∙ ap (λ (n : NodeView). n.seat.outgoing) c.self.view_is in
    let waits : Waits c.is_some-more.result c.send.new.self.seat.outgoing =
    subst (λ (more : Bool). Waits more c.send.new.self.seat.outgoing) (sym c.is_some-more.ensures)
    (subst (λ (o : OutgoingView). Waits (is_some c.next_receiver.result) o) same
    (waits_of c.next_receiver.result c.outgoing.result.now c.next_receiver.ensures.some c.next_receiver.ensures.none)) in
    answers_of c.args.self.now c.tell.new.self c.ask.new.self c.send.new.self c.is_some-more.result c.args.out.now.items
    c.tell.new.out.items c.ask.new.out.items c.send.new.out.items c.put_end.new.out.items c.in_ok-tell.ensures.next
    c.in_ok-ask.ensures.next c.send.ensures.rest c.in_ok-tell.ensures.text c.in_ok-ask.ensures.text c.in_ok-send.ensures.taken
    c.in_ok-put_end.ensures waits

pub returns-in_err-send-clause-fault : goal.returns-in_err-send-clause-fault
returns-in_err-send-clause-fault c =
    let p = err_from_is_err_and c.from_residual-in_err-send.result c.from_residual-in_err-send.ensures.1 in
    rw (p.1, p.2) (answer_fault c.args.self.now c.tell.new.self c.ask.new.self c.in_err-send.field-0.0 c.in_ok-tell.ensures.next
    c.in_ok-ask.ensures.next c.in_err-send.ensures.fault)
