use Rattle.std.proofs.Common.{◌≡◌, Some, ap, sym, subst, ◌∙◌}
use Rattle.std.proofs.lemmas.Result.{err_from_is_err_and}
use Rattle.zpeers.specs.Outgoing.{OutgoingView}
use Rattle.znode.specs.Node.{NodeView}
use Rattle.znode.specs.support.Turns.{IsAnySendFault}
use Rattle.znode.proofs.node_lemmas.Turning.{sends_all_of, turn_fault}
use Rattle.znode.proofs.node.Node.send.Goals as goal

pub returns-in_ok-send_all-in-Some-clause-taken : goal.returns-in_ok-send_all-in-Some-clause-taken
returns-in_ok-send_all-in-Some-clause-taken c =
    sends_all_of c.args.self.now c.own.result c.in-Some.own c.self.inside.seat.outgoing c.send_all.new.seat.outgoing c.args.out.now.items
    c.send_all.new.out.items (c.own.ensures ∙ ap (λ (n : NodeView). n.replica.own) c.self.view_is) c.in-Some.is
    (ap (λ (n : NodeView). n.seat.outgoing) c.self.view_is) c.in_ok-send_all-in-Some.ensures.taken

pub returns-in_err-send_all-in-Some-clause-fault : goal.returns-in_err-send_all-in-Some-clause-fault
returns-in_err-send_all-in-Some-clause-fault c =
    let own = c.in-Some.own in
    let error = c.in_err-send_all-in-Some.field-0.0 in
    let is : c.args.self.now.replica.own ≡ Some own =
    sym (c.own.ensures ∙ ap (λ (n : NodeView). n.replica.own) c.self.view_is) ∙ c.in-Some.is in
    let p = err_from_is_err_and c.from_residual.result c.from_residual.ensures.1 in
    rw (p.1, p.2) (turn_fault c.args.self.now own error is
    (subst (λ (o : OutgoingView). IsAnySendFault own o error) (ap (λ (n : NodeView). n.seat.outgoing) c.self.view_is)
    c.in_err-send_all-in-Some.ensures.fault))
