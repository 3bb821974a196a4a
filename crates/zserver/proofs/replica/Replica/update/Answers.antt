use Rattle.std.proofs.Common.{rules, sym, ◌∙◌}
use Rattle.zprotocol.specs.server.Table.{update_row}
use Rattle.zserver.specs.support.Replicas.{accept_row, next_number}
use Rattle.zserver.proofs.Accepting.{accept_grows}
use Rattle.zserver.proofs.Sending.{on_err}
use Rattle.zserver.proofs.replica.Replica.update.Goals as goal

pub returns-then-is_some-clause-grows : goal.returns-then-is_some-clause-grows
unfolding update_row accept_row next_number
returns-then-is_some-clause-grows c =
    on_err c.forward.result (search (rules, accept_grows c.args.self.now c.in-Some.next c.args.entry (sym c.next_number.ensures ∙ c.in-Some.is)))

pub returns-else-is_some-clause-grows : goal.returns-else-is_some-clause-grows
unfolding update_row accept_row next_number
returns-else-is_some-clause-grows c =
    on_err c.process.result (search (rules, accept_grows c.args.self.now c.in-Some.next c.args.entry (sym c.next_number.ensures ∙ c.in-Some.is)))
