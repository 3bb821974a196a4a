use Rattle.std.proofs.Common.{inr, refl, ◌+◌, ◌∙◌}
use Rattle.zjournal.proofs.Scan.{endless_is_none, other_is_none, text_slice}
use Rattle.zjournal.proofs.batches.batch.Goals as goal

pub returns-in_default-clause-err : goal.returns-in_default-clause-err
returns-in_default-clause-err c = inr (refl, endless_is_none c.args.bytes.now c.args.place c.in_default.ensures.none)

pub returns-in_default-checked-clause-err : goal.returns-in_default-checked-clause-err
returns-in_default-checked-clause-err c = inr (
  refl,
  other_is_none c.args.bytes.now c.args.place c.in-Some.end c.in-Some.ensures.some
      (λ text is. c.in_default-checked.ensures.none text (text_slice c.args.bytes.now (c.args.place.end + 1) c.in-Some.end c.in-Some.ensures.some ∙ is)),
)
