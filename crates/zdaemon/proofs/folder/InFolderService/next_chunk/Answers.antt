use Rattle.std.proofs.Common.{◌≡◌, Bool, true, false, None, if◌then◌else◌, refl, sym, ap, ◌∙◌}
use Rattle.zconnections.specs.buffers.Outbox.{first_of}
use Rattle.zfront.specs.Front.{with_tables}
use Rattle.zfront.specs.Inputs.{without_first}
use Rattle.zdurable.specs.declared.kept.DurableFront.{DurableFront}
use Rattle.zdurable.specs.DurableFront.{front_in, chunk_in, reports, with_front}
use Rattle.zdaemon.proofs.Chunks.{where_none, none_first}
use Rattle.zdaemon.proofs.folder.InFolderService.next_chunk.Goals as goal

-- where no chunk is handed out, taking one changes nothing
module _ {D : Type 0} (kept : DurableFront D) where
  all_reported : (b : Bool) → (if b then first_of (front_in kept).tables.unsent else None) ≡ None
      → (if b then with_front (without_first (front_in kept)) kept else kept) ≡ kept
  all_reported false is = refl
  all_reported true is =
      ap (λ chunks. with_front (with_tables (record (front_in kept).tables { unsent = chunks }) (front_in kept)) kept)
      (none_first (front_in kept).tables.unsent is)

pub returns-clause-none : goal.returns-clause-none
returns-clause-none g c =
    where_none c.next_chunk.result _ (λ is.
    let none : chunk_in c.args.self.now.kept ≡ None = sym c.next_chunk.ensures.first ∙ is in (
      none,
      ap (λ (kept : DurableFront g.row.D.Denot). record c.args.self.now { kept = kept })
          (c.next_chunk.ensures.rest ∙ all_reported c.args.self.now.kept (reports c.args.self.now.kept) none),
    ))
