use Rattle.std.proofs.Common.{[], ◌∷◌, refl, arith}
use Rattle.zjournal.proofs.Adler.{one_is_sum}
use Rattle.zjournal.proofs.Files.{made_texts}
use Rattle.zjournal.proofs.rows.files_are_made.Goals as goal

pub returns-clause-made : goal.returns-clause-made
returns-clause-made c =
    record { start = 1; is_sum = one_is_sum; texts = made_texts 3 (omega arith) 1; end = 0 ∷ []; split = refl; counts_for_nothing = tt }
