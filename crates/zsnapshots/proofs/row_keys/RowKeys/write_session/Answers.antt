use Rattle.std.proofs.Common.{ap, sym, ◌∙◌}
use Rattle.std.specs.Cmp.{nat_cmp_total}
use Rattle.zsnapshots.specs.States.{KeysView, sessions_of}
use Rattle.zsnapshots.specs.States.StateRow.{OfSession}
use Rattle.zsnapshots.proofs.Places.{entry_at, entry_there_at}
use Rattle.zsnapshots.proofs.Written.{item_ok}
use Rattle.zsnapshots.proofs.row_keys.RowKeys.write_session.Goals as goal

pub unreachable-requires : goal.unreachable-requires
unreachable-requires c =
    let m = c.args.machine.now.state.service.plain.sessions in
    let keys = ap (λ (v : KeysView). v.sessions) c.self.view_is ∙ c.requires.keys.sessions in
    entry_there_at nat_cmp_total m c.self.inside.sessions.items c.args.place c.index-id.result.now keys c.requires.within
    c.index-id.ensures (sym c.session.ensures ∙ c.in-None.is)

pub returns-clause-ok : goal.returns-clause-ok
returns-clause-ok c =
    let m = c.args.machine.now.state.service.plain.sessions in
    let keys = ap (λ (v : KeysView). v.sessions) c.self.view_is ∙ c.requires.keys.sessions in
    let at = entry_at nat_cmp_total m c.self.inside.sessions.items c.args.place c.index-id.result.now keys c.requires.within
    c.index-id.ensures c.in-Some.session (sym c.session.ensures ∙ c.in-Some.is) in
    item_ok OfSession (sessions_of c.args.machine.now.state) c.args.place c.args.out.now.items c.write_session_row.new.out.items
    c.write_session_row.result (c.index-id.result.now, c.in-Some.session) at c.write_session_row.ensures.ok
    (c.write_session_row.ensures.fits)
