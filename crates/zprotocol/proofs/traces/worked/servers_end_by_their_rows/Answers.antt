use Rattle.std.proofs.Common.{refl}
use Rattle.zprotocol.specs.server.Table.{accept_result, become_head_row, query_row, server_step, submit_row}
use Rattle.zprotocol.proofs.traces.worked.servers_end_by_their_rows.Goals as goal

pub returns-clause-stops : goal.returns-clause-stops
unfolding server_step submit_row accept_result
returns-clause-stops c = refl

pub returns-clause-stops_at_no_query : goal.returns-clause-stops_at_no_query
unfolding server_step query_row
returns-clause-stops_at_no_query c row = absurd (cc row)

pub returns-clause-stops_where_nothing_grows : goal.returns-clause-stops_where_nothing_grows
unfolding server_step become_head_row
returns-clause-stops_where_nothing_grows c row = absurd (cc row)

pub returns-clause-leaves : goal.returns-clause-leaves
returns-clause-leaves c = refl

pub returns-clause-acts_on_no_such_order : goal.returns-clause-acts_on_no_such_order
returns-clause-acts_on_no_such_order c row = absurd (cc row)

pub returns-clause-leaves_at_no_other_order : goal.returns-clause-leaves_at_no_other_order
returns-clause-leaves_at_no_other_order c row = absurd (cc row)

pub returns-clause-halts : goal.returns-clause-halts
returns-clause-halts c = refl

pub returns-clause-hears_an_update : goal.returns-clause-hears_an_update
unfolding server_step submit_row accept_result
returns-clause-hears_an_update c row = absurd (cc row)

pub returns-clause-ignores : goal.returns-clause-ignores
unfolding server_step query_row
returns-clause-ignores c = refl

pub returns-clause-ignores_at_no_tail : goal.returns-clause-ignores_at_no_tail
unfolding server_step query_row
returns-clause-ignores_at_no_tail c row = absurd (cc row)
