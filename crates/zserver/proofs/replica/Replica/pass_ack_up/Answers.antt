use Rattle.std.proofs.Common.{◌≡◌, rules}
use Rattle.std.proofs.lemmas.Fn.{filter_same}
use Rattle.zprotocol.specs.server.Table.{ack_row, entries_above}
use Rattle.zserver.proofs.replica.Replica.pass_ack_up.Goals as goal

pub returns-clause-next : goal.returns-clause-next
unfolding ack_row
returns-clause-next c =
    let left : c.retain.new.self.items ≡ entries_above c.args.n c.self.inside.sent.items = filter_same _ _ _ (λ x b f' k. search rules) _ _ c.retain.ensures.filtered in
    search (rules, left)
