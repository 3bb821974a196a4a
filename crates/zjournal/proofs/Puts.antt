-- What a put leaves, at each moment and in the end.
use Rattle.std.proofs.Common.{◌≡◌, inl, Bool, true, false, ℕ, ◌+◌, ◌==◌, List, [], ◌∷◌, ◌++◌, length, take, sym, ◌∙◌, ap, subst, refl, ne_eqb}
use mathlib.Core.Bool.{true≢false}
use Rattle.std.specs.Prelude.{◌||◌}
use Rattle.std.specs.List.{list_any}
use Rattle.zjournal.specs.declared.journal.Journal.{Journal}
use Rattle.zjournal.specs.Device.{Only, LeavesOnly}
use Rattle.zjournal.specs.Blocks.{IsText, AreTexts, at_rest}
use Rattle.zjournal.specs.Checksum.{adler_after, stamped}
use Rattle.zjournal.specs.CommitBytes.{IsAdding}
use Rattle.zjournal.specs.Journal.{holdings, Keeps, IsAtRest, IsWithOrWithout}
use Rattle.zjournal.proofs.Sums.{stamped_text}
use Rattle.zjournal.proofs.Moments.{started, weaker}
use Rattle.zjournal.proofs.Files.{stamped_after, more_place, rest_keeps, adding_keeps, added_rests, added_texts}

-- the test for a byte 0
neither : (b more : Bool) → (b || more) ≡ false → (b ≡ false) × (more ≡ false)
neither true more is = absurd (true≢false is)
neither false more is = (refl, is)

pub tested_text : (text : List ℕ) → list_any (λ b. b == 0) text ≡ false → IsText text
tested_text [] is = tt
tested_text (b ∷ text) is =
    let t = neither (b == 0) (list_any (λ (b : ℕ). b == 0) text) is in
    ((λ zero_is. true≢false (sym (ap (λ (n : ℕ). n == 0) zero_is) ∙ t.0)), tested_text text t.1)

pub tested_zero : (text : List ℕ) → list_any (λ b. b == 0) text ≡ true → IsText text → ⊥
tested_zero text is h = true≢false (sym is ∙ none text h)
  where
    none : (text : List ℕ) → IsText text → list_any (λ (b : ℕ). b == 0) text ≡ false
    none [] h = refl
    none (b ∷ text) h = rw (ne_eqb b 0 h.0) (none text h.1)

module _ {D : Type 0} (seen : D → List ℕ) (may_leave : D → List ℕ → Type 0) (moment : D → ℕ) (left_since : D → ℕ → List ℕ
    → Type 0) (journal : Journal D) (servers : ℕ) (batches : List (List ℕ)) (rest : IsAtRest seen may_leave servers batches journal) where
  -- nothing was asked of the device
  pub stays : (batch : List ℕ) → ((c : List ℕ) → left_since journal.device (moment journal.device) c → may_leave journal.device c)
      → LeavesOnly moment left_since journal.device journal.device (IsWithOrWithout servers batches batch)
  stays batch now = started moment left_since journal.device (IsWithOrWithout servers batches batch)
      (λ c left. inl (subst (Keeps servers batches) (sym (rest.durable c (now c left)))
      (rest_keeps journal.place.start rest.place.is_sum servers batches (seen journal.device) journal.place.end rest.texts rest.file rest.place.end)))

  module _ (batch block : List ℕ) (passed : list_any (λ b. b == 0) batch ≡ false)
      (block_is : block ≡ stamped journal.place.sum batch ++ 0 ∷ 0 ∷ []) where
    held_is : stamped journal.place.sum batch ≡ stamped_after journal.place.start batches batch
    held_is = ap (λ (n : ℕ). stamped n batch) rest.place.sum

    text : IsText (stamped_after journal.place.start batches batch)
    text = subst IsText held_is (stamped_text journal.place.sum batch (tested_text batch passed))

    is_block : block ≡ stamped_after journal.place.start batches batch ++ 0 ∷ 0 ∷ []
    is_block = block_is ∙ ap (λ (l : List ℕ). l ++ 0 ∷ 0 ∷ []) held_is

    pub leaves : (new : D) → LeavesOnly moment left_since journal.device new (IsAdding (take journal.place.end (seen journal.device)) block)
        → LeavesOnly moment left_since journal.device new (IsWithOrWithout servers batches batch)
    leaves new run = weaker moment left_since journal.device new (IsAdding (take journal.place.end (seen journal.device)) block)
        (IsWithOrWithout servers batches batch) run
        (λ c adding. adding_keeps journal.place.start rest.place.is_sum servers batches (seen journal.device) journal.place.end rest.texts rest.file rest.place.end
        batch block c text is_block adding)

    pub rests : (later : Journal D) → later.servers ≡ journal.servers
        → seen later.device ≡ take journal.place.end (seen journal.device) ++ 1 ∷ block
        → later.place.start ≡ journal.place.start → later.place.end ≡ journal.place.end + length block
        → later.place.sum ≡ adler_after journal.place.sum batch → Only (seen later.device) (may_leave later.device)
        → IsAtRest seen may_leave servers (batches ++ batch ∷ []) later
    rests later same file start end sum only = record {
      texts = subst (λ (n : ℕ). AreTexts (holdings n servers (batches ++ batch ∷ []))) (sym start)
          (added_texts journal.place.start rest.place.is_sum servers batches (seen journal.device) journal.place.end rest.texts rest.file rest.place.end batch text);
      file = added_rests journal.place.start rest.place.is_sum servers batches (seen journal.device) journal.place.end rest.texts rest.file rest.place.end
          batch block (seen later.device) is_block file
          ∙ ap (λ (n : ℕ). at_rest (holdings n servers (batches ++ batch ∷ []))) (sym start);
      head_is = same ∙ rest.head_is;
      place = more_place servers batches journal.place later.place batch block rest.place block_is start end sum;
      durable = only;
    }
