use Rattle.std.proofs.Common.{ap, ◌∙◌}
use Rattle.std.specs.Cmp.{nat_cmp_total}
use Rattle.std.specs.Ordering.{nat_cmp}
use Rattle.std.specs.FinMap as finite
use Rattle.zcalls.specs.Cached.{Cached}
use Rattle.zsnapshots.specs.States.{KeysView, replies_of, written_of}
use Rattle.zsnapshots.specs.States.StateRow.{OfReply}
use Rattle.zsnapshots.proofs.Places.{entry_at, entry_there_at}
use Rattle.zsnapshots.proofs.Written.{item_ok, both_ok, kept_is}
use Rattle.zsnapshots.specs.Rows.{kept_of}
use Rattle.zsnapshots.proofs.row_keys.RowKeys.write_reply.Goals as goal

pub unreachable-requires : goal.unreachable-requires
unreachable-requires c =
    let alone = c.args.self.now.is_alone in
    let s = written_of alone c.args.machine.now.state in
    let keys = ap (λ (v : KeysView). v.clients) c.self.view_is ∙ c.requires.keys.clients in
    let kept = kept_is alone c.args.machine.now.state c.args.place c.requires.within in
    let none = ap (λ (m : finite.FinMap nat_cmp Cached). finite.get m c.index-client.result.now) kept ∙ c.in-None.ensures.none in
    entry_there_at nat_cmp_total s.service.kept c.self.inside.clients.items c.args.place c.index-client.result.now keys
    c.requires.within c.index-client.ensures none

pub returns-clause-ok : goal.returns-clause-ok
returns-clause-ok c =
    let alone = c.args.self.now.is_alone in
    let s = written_of alone c.args.machine.now.state in
    let keys = ap (λ (v : KeysView). v.clients) c.self.view_is ∙ c.requires.keys.clients in
    let kept = kept_is alone c.args.machine.now.state c.args.place c.requires.within in
    let there = ap (λ (m : finite.FinMap nat_cmp Cached). finite.get m c.index-client.result.now) kept ∙ c.in-Some.ensures.kept in
    let at = entry_at nat_cmp_total s.service.kept c.self.inside.clients.items c.args.place c.index-client.result.now keys
    c.requires.within c.index-client.ensures (kept_of c.in-Some.kept.0 c.in-Some.kept.1.now) there in
    item_ok OfReply (replies_of s) c.args.place c.args.out.now.items c.write_reply_row.new.out.items c.write_reply_row.result
    (c.index-client.result.now, (kept_of c.in-Some.kept.0 c.in-Some.kept.1.now)) at c.write_reply_row.ensures.ok
    (both_ok _ _ c.write_reply_row.result c.write_reply_row.ensures.fits c.in-Some.ensures.of_update)
