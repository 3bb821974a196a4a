use Rattle.std.proofs.Common.{sym, ap, ◌∙◌}
use Rattle.std.specs.Option.{option_copied_mut}
use Rattle.zconnections.specs.contracts.attachments.table.AttachmentTable.{the_view}
use Rattle.zconnections.specs.attachments.Attachments.{with_changed}
use Rattle.zconnections.proofs.attachments_lemmas.Changed.{changed-entries, unchanged-entries}
use Rattle.zconnections.proofs.attachments.table.AttachmentTable.put.Goals as goal
use Rattle.zconnections.proofs.attachments.table.AttachmentTable.put.Goals.{in-Some, in_default}

pub returns : goal.returns
returns c =
    let es = c.self.inside.table.entries in
    let attachment = c.args.attachment in
    elim c.match-get_mut.branch [
      | in-Some w ↦
          ap the_view w.self-inside-is
          ∙ changed-entries (λ _. attachment) es _ c.number.result w.in-Some.place.now
          (sym c.get_mut.ensures.value ∙ ap option_copied_mut w.in-Some.is)
          (λ some. ((c.get_mut.follows.holds attachment).3 some).0)
          ∙ (λ i. with_changed (λ _. attachment) (c.self.view_is i) (c.number.ensures i))
      | in_default w ↦
          ap the_view w.self-inside-is
          ∙ unchanged-entries (λ _. attachment) es _ c.number.result
          (sym c.get_mut.ensures.value ∙ ap option_copied_mut w.in_default.is)
          (ap (λ m. m.entries) c.get_mut.follows.holds-at-none)
          ∙ (λ i. with_changed (λ _. attachment) (c.self.view_is i) (c.number.ensures i))
    ]
