use Rattle.std.proofs.Common.{ℕ, List, ◌++◌, subst, ap, ◌∙◌}
use Rattle.zwire.specs.declared.records.record.Record.TheVariants.{Row}
use Rattle.zwire.specs.records.Records.{Fits, line_of}
use Rattle.zsnapshots.specs.States.{spelled}
use Rattle.zsnapshots.specs.folder.Compaction.{IsAllWritten, CompactionView}
use Rattle.zsnapshots.specs.folder.support.Writing.{IsRecordWritten}
use Rattle.zsnapshots.proofs.folder_lemmas.Chunks.{all_written, row_keeps, row_written}
use Rattle.zsnapshots.proofs.folder.compaction.Compaction.write_next.Goals as goal

pub invariant_of-self-2 : goal.invariant_of-self-2
invariant_of-self-2 c = λ _.
    let written = c.in_ok-write_next.ensures.row c.if-not-branch.false in
    let row_is = c.row_of.ensures ∙ written.bytes ∙ ap (λ (bytes : List ℕ). bytes ++ spelled written.x) c.new-bytes.ensures.items in
    row_keeps c.self.inside.tree.now.tree c.self.inside.writing (c.self.invariant c.if-self.false) written.x written.next written.fits
    (subst (λ (bytes : List ℕ). Fits (Row bytes)) row_is c.in_ok-write_line.ensures.fits) c.write_next.new.self written.view

pub returns-then-not-branch-clause-end : goal.returns-then-not-branch-clause-end
returns-then-not-branch-clause-end c = λ _.
    subst IsAllWritten c.self.view_is
    (all_written c.self.inside.tree.now.tree c.self.inside.writing (c.self.invariant c.if-self.false)
    (c.in_ok-write_next.ensures.end c.if-not-branch.true))

pub returns-clause-next : goal.returns-clause-next
returns-clause-next c = λ _.
    let written = c.in_ok-write_next.ensures.row c.if-not-branch.false in
    let row_is = c.row_of.ensures ∙ written.bytes ∙ ap (λ (bytes : List ℕ). bytes ++ spelled written.x) c.new-bytes.ensures.items in
    let t = c.self.inside.tree.now.tree in
    let now : CompactionView = record { tree = t; written = c.write_next.new.self.written } in
    subst (λ (v : CompactionView). IsRecordWritten v now c.args.text.now.items c.write_line.new.text.items) c.self.view_is
    (row_written t c.self.inside.writing (c.self.invariant c.if-self.false) written.x written.next written.fits
    (subst (λ (bytes : List ℕ). Fits (Row bytes)) row_is c.in_ok-write_line.ensures.fits) c.write_next.new.self
    c.args.text.now.items c.write_line.new.text.items written.view
    (c.in_ok-write_line.ensures.line ∙ ap (λ (bytes : List ℕ). c.args.text.now.items ++ line_of (Row bytes)) row_is))
