use Rattle.std.proofs.Common.{◌≢◌, ℕ, [], ◌∷◌, refl, arith}
use Rattle.zjournal.specs.Blocks.{IsText}
use Rattle.zjournal.specs.Checksum.{stamped}
use Rattle.zjournal.proofs.Adler.{one_is_sum}
use Rattle.zjournal.proofs.Files.{head_text}
use Rattle.zjournal.proofs.Sums.{stamped_text}
use Rattle.zjournal.proofs.rows.files_continue_from_a_sum.Goals as goal

-- one letter after a checksum
letter : (sum b : ℕ) → b ≢ 0 → IsText (stamped sum (b ∷ []))
letter sum b some = stamped_text sum (b ∷ []) (some, tt)

pub returns-clause-before : goal.returns-clause-before
returns-clause-before c = record {
  start = 1;
  is_sum = one_is_sum;
  texts = (
    head_text 1 3 (omega arith),
    (
      letter 1 97 (λ is. omega (arith, is)),
      (letter 6422626 98 (λ is. omega (arith, is)), (letter 19267780 100 (λ is. omega (arith, is)), tt)),
    ),
  );
  end = 0 ∷ [];
  split = refl;
  counts_for_nothing = tt;
}

pub returns-clause-after : goal.returns-clause-after
returns-clause-after c = record {
  start = 6422625;
  is_sum = (omega arith, omega arith);
  texts = (
    head_text 6422625 3 (omega arith),
    (letter 6422625 99 (λ is. omega (arith, is)), (letter 19267780 100 (λ is. omega (arith, is)), tt)),
  );
  end = 0 ∷ [];
  split = refl;
  counts_for_nothing = tt;
}
