use Rattle.std.proofs.Common.{◌≡◌, ◌≢◌, inl, inr, ℕ, List, [], ◌∷◌, ◌++◌, length, drop, get_or, refl, sym, ◌∙◌, ap, arith}
use Rattle.std.specs.Prelude.{codes}
use Rattle.zjournal.specs.declared.fault.OpenError.TheVariants.{Damaged}
use Rattle.zjournal.specs.Blocks.{IsText}
use Rattle.zjournal.specs.Checksum.{stamped}
use Rattle.zjournal.specs.Journal.{head, Keeps}
use Rattle.zjournal.proofs.Adler.{one_is_sum}
use Rattle.zjournal.proofs.Blocks.{first_zero}
use Rattle.zjournal.proofs.Files.{head_text}
use Rattle.zjournal.proofs.Readings.{what_stands_has_no_fault}
use Rattle.zjournal.proofs.Sums.{stamped_text}
use Rattle.zjournal.proofs.rows.missing_blocks_are_seen.Goals as goal

-- one letter, and a checksum in front of it
letter : (b : ℕ) → b ≢ 0 → IsText (b ∷ [])
letter b some = (some, tt)

second : IsText (codes "012600c4b")
second = stamped_text 6422626 (98 ∷ []) (letter 98 (λ is. omega (arith, is)))

-- the second block isn't one that comes first
not_first : (others text more : List ℕ) → IsText (stamped 1 text) → codes "012600c4b" ++ 0 ∷ others ≡ stamped 1 text ++ 0 ∷ more → ⊥
not_first others text more h is =
    let same = (first_zero (codes "012600c4b") (stamped 1 text) others more second h is).0 in
    let text_is : codes "b" ≡ text = ap (λ (l : List ℕ). drop 8 l) same in
    let bytes : codes "012600c4b" ≡ stamped 1 (codes "b") = same ∙ ap (λ (l : List ℕ). stamped 1 l) (sym text_is) in
    let differ : 49 ≡ 48 = ap (λ (l : List ℕ). get_or l 1 0) bytes in
    omega (arith, differ)

none_with : (others file : List ℕ) (batches : List (List ℕ))
    → file ≡ 1 ∷ (head 1 3 ++ 0 ∷ 1 ∷ (codes "012600c4b" ++ 0 ∷ others)) → Keeps 3 batches file → ⊥
none_with others file batches is keeps =
    what_stands_has_no_fault 3 file batches (Damaged 34) (inl keeps) tt
    (inr (
      1,
      one_is_sum,
      [],
      (head_text 1 3 (omega arith), tt),
      refl,
      (codes "012600c4b" ++ 0 ∷ others, is, (λ empty. omega (arith, ap length empty)), not_first others),
    ))

pub returns-clause-both : goal.returns-clause-both
returns-clause-both c = record {
  start = 1;
  is_sum = one_is_sum;
  texts = (
    head_text 1 3 (omega arith),
    (stamped_text 1 (97 ∷ []) (letter 97 (λ is. omega (arith, is))), (second, tt)),
  );
  end = 0 ∷ [];
  split = refl;
  counts_for_nothing = tt;
}

pub returns-clause-first_missing : goal.returns-clause-first_missing
returns-clause-first_missing c batches keeps = none_with (0 ∷ []) _ batches refl keeps

pub returns-clause-other_order : goal.returns-clause-other_order
returns-clause-other_order c batches keeps = none_with (1 ∷ (codes "00620062a" ++ 0 ∷ 0 ∷ [])) _ batches refl keeps
