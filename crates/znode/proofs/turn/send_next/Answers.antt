use Rattle.std.proofs.Common.{ℕ, List, ◌++◌, ap, ◌∙◌}
use Rattle.std.proofs.lemmas.Result.{err_from_is_err_and}
use Rattle.zpeers.specs.Records.{link_record}
use Rattle.znode.proofs.node_lemmas.Sending.{long_for}
use Rattle.znode.proofs.turn.send_next.Goals as goal

pub returns-clause-some : goal.returns-clause-some
returns-clause-some c = λ _.
    let written = c.in_ok-write_next.ensures.some c.if-not-branch.false in
    let text_is = c.deref.ensures.value ∙ written.bytes ∙ ap (λ (t : List ℕ). t ++ link_record.spell written.it) c.new-text.ensures.items in
    record { it = written.it; next = written.next; text = c.in_ok-put_send.ensures written.it text_is; others = written.others }

pub returns-in_err-write_next-clause-fault : goal.returns-in_err-write_next-clause-fault
returns-in_err-write_next-clause-fault c =
    let p = err_from_is_err_and c.from_residual.result c.from_residual.ensures.1 in
    rw (p.1, p.2) (long_for c.args.own c.args.to c.args.seat.now.outgoing c.in_err-write_next.field-0.0 c.in_err-write_next.ensures.long)
