use Rattle.std.proofs.Common.{◌∷◌, [], ap, sym, ◌∙◌, ◌++◌, List, arith}
use Rattle.std.proofs.lemmas.Grind.{common_steps}
use Rattle.std.proofs.lemmas.List.{map-append}
use Rattle.zwire.specs.declared.records.record.Record.{Record}
use Rattle.zsnapshots.specs.folder.Entries.{entry_record}
use Rattle.zdurable.proofs.writing.records_of.Goals as goal

pub loop-update-preserved : goal.loop-update-preserved
loop-update-preserved c = (
  grind (arith, common_steps),
  c.in_ok-add_entry.ensures
      ∙ ap (λ (rs : List Record). rs ++ entry_record c.in-Some.update ∷ []) c.loop-update.invariant.1
      ∙ sym (map-append entry_record c.loop-update.yielded (c.in-Some.update ∷ [])),
)
