use Rattle.std.proofs.Common.{codes, ap, subst, ◌∙◌}
use Rattle.std.specs.FinMap as finite
use Rattle.std.specs.FinSet as sets
use Rattle.ztree.specs.Counts.{owned_count, data_count}
use Rattle.zscript_text.specs.Texts.{Writes}
use Rattle.ztree_service.specs.declared.counts.Counts.{Counts}
use Rattle.zfront.specs.Front.{FrontView}
use Rattle.zfront.specs.Words.{number_line}
use Rattle.zfront.proofs.Results.{on_ok, writes_more}
use Rattle.zfront.proofs.inner.Inner.write_mntr.Goals as goal

pub returns : goal.returns
returns g c =
    let one = c.push_str.new.self in
    let two = c.write_number.new.out in
    let three = c.write_number-2.new.out in
    let four = c.write_number-3.new.out in
    let five = c.write_number-4.new.out in
    let six = c.write_number-5.new.out in
    let end = c.write_number-6.new.out in
    let connections = subst (λ n. Writes one two (number_line (codes "zk_num_alive_connections\t") n)) (c.connections.ensures
    ∙ ap (λ (v : FrontView). finite.len v.tables.streams) c.self.view_is) c.in_ok-write_number.ensures in
    let sessions = subst (λ n. Writes two three (number_line (codes "zk_global_sessions\t") n)) (c.sessions.ensures
    ∙ ap (λ (v : FrontView). finite.len v.tables.attachments) c.self.view_is) c.in_ok-write_number-2.ensures in
    let nodes = subst (λ n. Writes three four (number_line (codes "zk_znode_count\t") n)) (ap (λ (counts : Counts). counts.nodes) c.in_ok-counts.ensures
    ∙ ap (λ (v : FrontView). finite.len v.tree.nodes) c.self.view_is) c.in_ok-write_number-3.ensures in
    let watches = subst (λ n. Writes four five (number_line (codes "zk_watch_count\t") n)) (c.watches.ensures
    ∙ ap (λ (v : FrontView). sets.len v.tables.watches) c.self.view_is) c.in_ok-write_number-4.ensures in
    let owned = subst (λ n. Writes five six (number_line (codes "zk_ephemerals_count\t") n)) (ap (λ (counts : Counts). counts.owned) c.in_ok-counts.ensures
    ∙ ap (λ (v : FrontView). owned_count v.tree.nodes) c.self.view_is) c.in_ok-write_number-5.ensures in
    on_ok c.write_number-6.result
    (λ wrote.
    writes_more c.args.out.now one end _ _ c.in_ok-push_str.ensures.bytes
    (writes_more one two end _ _ connections
    (writes_more two three end _ _ sessions
    (writes_more three four end _ _ nodes
    (writes_more four five end _ _ watches
    (writes_more five six end _ _ owned
    (subst (λ n. Writes six end (number_line (codes "zk_approximate_data_size\t") n)) (ap (λ (counts : Counts). counts.bytes) c.in_ok-counts.ensures
    ∙ ap (λ (v : FrontView). data_count v.tree.nodes) c.self.view_is) wrote)))))))
    c.write_number-6.ensures
