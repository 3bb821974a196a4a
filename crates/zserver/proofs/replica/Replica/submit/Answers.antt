use Rattle.std.proofs.Common.{rules, sym, ◌∙◌}
use Rattle.zprotocol.specs.server.Table.{submit_row}
use Rattle.zserver.specs.support.Replicas.{accept_row, next_number}
use Rattle.zserver.proofs.Accepting.{accept_grows}
use Rattle.zserver.proofs.Sending.{on_err}
use Rattle.zserver.proofs.replica.Replica.submit.Goals as goal

pub returns-in_err-entry-in-Some-clause-grows : goal.returns-in_err-entry-in-Some-clause-grows
unfolding submit_row accept_row next_number
returns-in_err-entry-in-Some-clause-grows c =
    on_err c.from_residual.result (search (rules, accept_grows c.args.self.now c.in-Some.n c.args.entry (sym c.next_number.ensures ∙ c.in-Some.is)))

pub returns-in_ok-entry-in-Some-clause-grows : goal.returns-in_ok-entry-in-Some-clause-grows
unfolding submit_row accept_row next_number
returns-in_ok-entry-in-Some-clause-grows c =
    on_err c.forward.result (search (rules, accept_grows c.args.self.now c.in-Some.n c.args.entry (sym c.next_number.ensures ∙ c.in-Some.is)))

pub returns-else-is_some-clause-grows : goal.returns-else-is_some-clause-grows
unfolding submit_row accept_row next_number
returns-else-is_some-clause-grows c =
    on_err c.process-done.result (search (rules, accept_grows c.args.self.now c.in-Some.n c.args.entry (sym c.next_number.ensures ∙ c.in-Some.is)))
