use Rattle.std.proofs.Common.{◌∙◌, [], ◌∷◌, ◌++◌, refl, sym, ap, subst, inl}
use Rattle.zcalls.specs.Lists.{Among}
use Rattle.zjute.specs.Frames.{next_of}
use Rattle.zfront_laws.specs.watches.Laws.{requests_in}
use Rattle.zfront_laws.proofs.watches.rows.who_missed_it.Goals as goal

pub returns-clause-own : goal.returns-clause-own
returns-clause-own c = λ s bytes frame r set speaks none cut reads is. (
  refl,
  frame ∷ [],
  [],
  ([], ap (λ unread. next_of (unread ++ bytes)) none ∙ cut, refl),
  frame,
  subst (λ phase. Among frame (requests_in phase (frame ∷ []))) (sym speaks) (inl refl),
  (r, reads, is),
)
