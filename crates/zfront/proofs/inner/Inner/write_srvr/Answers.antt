use Rattle.std.proofs.Common.{codes, ap, subst, ◌∙◌, ◌+◌, ◌%◌}
use Rattle.std.specs.Prelude.{◌^◌}
use Rattle.std.specs.FinMap as finite
use Rattle.zscript_text.specs.Texts.{Writes}
use Rattle.ztree_service.specs.declared.counts.Counts.{Counts}
use Rattle.zfront.specs.Front.{FrontView}
use Rattle.zfront.specs.Words.{number_line}
use Rattle.zfront.proofs.Results.{on_ok, writes_more}
use Rattle.zfront.proofs.inner.Inner.write_srvr.Goals as goal

pub returns : goal.returns
returns g c =
    let one = c.push_str.new.self in
    let two = c.write_number.new.out in
    let three = c.write_number-2.new.out in
    let four = c.push_str-2.new.self in
    let end = c.write_number-3.new.out in
    let connections = subst (λ n. Writes one two (number_line (codes "Connections: ") n)) (c.connections.ensures
    ∙ ap (λ (v : FrontView). finite.len v.tables.streams) c.self.view_is) c.in_ok-write_number.ensures in
    let last = c.number.ensures ∙ c.in_ok-last.ensures in
    let told = ap (λ n. (c.self.inside.clock.base + n) % 2 ^ 64) last
    ∙ ap (λ (v : FrontView). (v.clock.base + c.args.self.now.tree.zxid) % 2 ^ 64) c.self.view_is in
    let zxid = subst (λ n. Writes two three (number_line (codes "Zxid: ") n)) told c.in_ok-write_number-2.ensures in
    on_ok c.write_number-3.result
    (λ wrote.
    writes_more c.args.out.now one end _ _ c.in_ok-push_str.ensures.bytes
    (writes_more one two end _ _ connections
    (writes_more two three end _ _ zxid
    (writes_more three four end _ _ c.in_ok-push_str-2.ensures.bytes
    (subst (λ n. Writes four end (number_line (codes "Node count: ") n)) (ap (λ (counts : Counts). counts.nodes) c.in_ok-counts.ensures
    ∙ ap (λ (v : FrontView). finite.len v.tree.nodes) c.self.view_is) wrote)))))
    c.write_number-3.ensures
