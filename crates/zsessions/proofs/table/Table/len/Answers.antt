use Rattle.std.proofs.Common.{sym, ap, ◌∙◌}
use Rattle.std.specs.FinMap as finite
use Rattle.zsessions.specs.support.TableView.{TableView}
use Rattle.zsessions.proofs.Length.{len-sessions}
use Rattle.zsessions.proofs.table.Table.len.Goals as goal

pub returns : goal.returns
returns c =
    let t = c.self.inside in
    c.len.ensures.len ∙ sym (len-sessions t.ids.entries t.rows.items t.buckets c.self.invariant c.len.ensures.unique)
    ∙ ap (λ (v : TableView). finite.len v.sessions) c.self.view_is
