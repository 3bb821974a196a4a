use Rattle.std.proofs.Common.{length, sym, ap, ◌∙◌}
use Rattle.std.specs.FinMap.{from_entries, len, len-entries}
use Rattle.ztree.proofs.Entries.{entries-rising}
use Rattle.zconnections.proofs.buffers.table.StreamTable.len.Goals as goal

pub returns : goal.returns
returns c =
    let es = c.self.inside.rows.entries in
    c.len.ensures.len ∙ ap length (sym (entries-rising es c.self.invariant.order)) ∙ sym (len-entries (from_entries es))
    ∙ ap len c.self.view_is
