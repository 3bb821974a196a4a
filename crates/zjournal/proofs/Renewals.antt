-- What the steps of a renewal leave.
use Rattle.std.proofs.Common.{◌≡◌, ◌-◌, inl, inr, ⊎_elim, ℕ, ◌+◌, List, [], ◌∷◌, ◌++◌, length, take, refl, sym, ◌∙◌, ap}
use Rattle.std.proofs.Common.{subst, arith, append_assoc, length-append}
use Rattle.std.proofs.lemmas.List.{take_at}
use Rattle.zjournal.specs.declared.journal.Journal.{Journal}
use Rattle.zjournal.specs.Device.{Only, Elapses, LeavesOnly, IsEither}
use Rattle.zjournal.specs.Blocks.{IsText, AreTexts, at_rest, blocks}
use Rattle.zjournal.specs.Checksum.{IsSum, adler_after, stamped}
use Rattle.zjournal.specs.Journal.{head, holdings, Keeps, IsAtRest, IsPlace}
use Rattle.zjournal.specs.declared.place.Place.{Place}
use Rattle.zjournal.specs.Renewal.{IsRenewing}
use Rattle.zjournal.specs.Untouched.{IsUntouched, IsTaking}
use Rattle.zjournal.proofs.Moments.{started, goes_on, joined_runs, weaker}
use Rattle.zjournal.proofs.Opens.{only_read, only_left}
use Rattle.zjournal.proofs.Files.{other_head_text, stamped_after, first_place, rest_keeps, more_place, more_texts, one_more}

-- a block without the closed commit_byte after it
pub without_commit_byte : (held block : List ℕ) → block ≡ held ++ 0 ∷ 0 ∷ [] → take (length block - 1) block ≡ held ++ 0 ∷ []
without_commit_byte held block is =
    let whole : block ≡ (held ++ 0 ∷ []) ++ 0 ∷ [] = is ∙ sym (append_assoc held (0 ∷ []) (0 ∷ [])) in
    let size : length block - 1 ≡ length (held ++ 0 ∷ []) = omega (arith, ap length whole, length-append (held ++ 0 ∷ []) (0 ∷ [])) in
    ap (λ (l : List ℕ). take (length block - 1) l) whole ∙ take_at (held ++ 0 ∷ []) (0 ∷ []) (length block - 1) (sym size)

-- the commit_byte, and then the block
pub open_block_added : (old mid new held block : List ℕ) → block ≡ held ++ 0 ∷ 0 ∷ [] → mid ≡ old ++ 1 ∷ []
    → new ≡ mid ++ take (length block - 1) block → new ≡ old ++ 1 ∷ (held ++ 0 ∷ [])
open_block_added old mid new held block is commit_byte rest =
    rest
    ∙ ap (λ (l : List ℕ). mid ++ l) (without_commit_byte held block is)
    ∙ ap (λ (l : List ℕ). l ++ (held ++ 0 ∷ [])) commit_byte
    ∙ append_assoc old (1 ∷ []) (held ++ 0 ∷ [])

module _ {D : Type 0} (seen : D → List ℕ) (may_leave : D → List ℕ → Type 0) (moment : D → ℕ) (left_since : D → ℕ → List ℕ → Type 0) where
  -- one call that leaves the file
  pub untouched_call : (old new : D) → Only (seen old) (may_leave old) → ((c : List ℕ) → left_since old (moment old) c → may_leave old c)
      → seen new ≡ seen old → ((c : List ℕ) → may_leave new c → may_leave old c)
      → Elapses (moment old) (moment new) (left_since old) (left_since new) (may_leave new) → IsUntouched seen may_leave moment left_since old new
  untouched_call old new only now same crash time = record {
    same = same;
    durable = only_left seen may_leave moment left_since old new only crash same;
    any_moment = only_read seen may_leave moment left_since old new only crash now time;
  }

  -- and one more
  pub untouched_both : (old mid new : D) → IsUntouched seen may_leave moment left_since old mid
      → IsUntouched seen may_leave moment left_since mid new → IsUntouched seen may_leave moment left_since old new
  untouched_both old mid new first second = record {
    same = second.same ∙ first.same;
    durable = second.durable;
    any_moment = joined_runs moment left_since old mid new (λ c. c ≡ seen old) first.any_moment
        (weaker moment left_since mid new (λ c. c ≡ seen mid) (λ c. c ≡ seen old) second.any_moment (λ c is. is ∙ first.same));
  }

  -- nothing is taken yet
  pub taking_not : (old new : D) (next : List ℕ) → IsUntouched seen may_leave moment left_since old new
      → LeavesOnly moment left_since old new (IsTaking (seen old) next)
  taking_not old new next untouched = weaker moment left_since old new (λ c. c ≡ seen old) (IsTaking (seen old) next)
      untouched.any_moment (λ c is. inl is)

  -- the new file is closed, and takes the place
  pub taking : (old mid new : D) (next whole : List ℕ) → IsUntouched seen may_leave moment left_since old mid
      → whole ≡ next ++ 0 ∷ [] → ((c : List ℕ) → may_leave new c → IsEither (may_leave mid) whole c)
      → Elapses (moment mid) (moment new) (left_since mid) (left_since new) (may_leave new)
      → LeavesOnly moment left_since old new (IsTaking (seen old) next)
  taking old mid new next whole untouched is either time =
      goes_on moment left_since old mid new (IsTaking (seen old) next) (may_leave new) (taking_not old mid next untouched) time
      (λ c left. ⊎_elim (λ before. inl (untouched.durable c before ∙ untouched.same)) (λ now. inr (now ∙ is)) (either c left))

  module _ (journal : Journal D) (servers : ℕ) (batches : List (List ℕ)) (rest : IsAtRest seen may_leave servers batches journal) where
    -- nothing was asked of the device
    pub not_asked : ((c : List ℕ) → left_since journal.device (moment journal.device) c → may_leave journal.device c)
        → IsUntouched seen may_leave moment left_since journal.device journal.device
    not_asked now = record {
      same = refl;
      durable = rest.durable;
      any_moment = started moment left_since journal.device (λ c. c ≡ seen journal.device) (λ c left. rest.durable c (now c left));
    }

    pub untouched_keeps : (new : D) → IsUntouched seen may_leave moment left_since journal.device new
        → LeavesOnly moment left_since journal.device new (Keeps servers batches)
    untouched_keeps new untouched = weaker moment left_since journal.device new (λ c. c ≡ seen journal.device) (Keeps servers batches)
        untouched.any_moment (λ c is. subst (Keeps servers batches) (sym is) (rest_keeps journal.place.start rest.place.is_sum servers batches
        (seen journal.device) journal.place.end rest.texts rest.file rest.place.end))

    pub still_rests : (later : Journal D) → later.servers ≡ journal.servers → later.place ≡ journal.place
        → IsUntouched seen may_leave moment left_since journal.device later.device → IsAtRest seen may_leave servers batches later
    still_rests later same place untouched = record {
      texts = subst (λ (p : Place). AreTexts (holdings p.start servers batches)) (sym place) rest.texts;
      file = untouched.same ∙ rest.file ∙ ap (λ (p : Place). at_rest (holdings p.start servers batches)) (sym place);
      head_is = same ∙ rest.head_is;
      place = subst (λ (p : Place). IsPlace servers batches p) (sym place) rest.place;
      durable = untouched.durable;
    }

    -- the new file has its head
    pub renewal_begun : (beside : D → List ℕ) (later : Journal D) → later.servers ≡ journal.servers → later.place ≡ journal.place
        → IsUntouched seen may_leave moment left_since journal.device later.device
        → (start : ℕ) → IsSum start → beside later.device ≡ blocks (head start journal.servers ∷ []) → later.renewed.start ≡ start
        → later.renewed.end ≡ 34 → later.renewed.sum ≡ start → IsRenewing seen may_leave beside servers batches [] later
    renewal_begun beside later same place untouched start is_sum begun starts end sum = record {
      rest = still_rests later same place untouched;
      texts = (other_head_text journal.place.start later.renewed.start servers rest.texts.0, tt);
      so_far = begun
          ∙ ap (λ (n : ℕ). blocks (head start n ∷ [])) rest.head_is
          ∙ ap (λ (n : ℕ). blocks (head n servers ∷ [])) (sym starts);
      place = first_place servers later.renewed end (sum ∙ sym starts) (subst IsSum (sym starts) is_sum);
    }

  module _ (beside : D → List ℕ) (journal : Journal D) (servers : ℕ) (batches next_ones : List (List ℕ)) (renewing : IsRenewing
      seen may_leave beside servers batches next_ones journal) where
    -- one batch more
    pub renewal_added : (batch : List ℕ) (later : Journal D) → IsText (stamped journal.renewed.sum batch) → later.servers ≡ journal.servers
        → later.place ≡ journal.place → IsUntouched seen may_leave moment left_since journal.device later.device
        → beside later.device ≡ beside journal.device ++ 1 ∷ (stamped journal.renewed.sum batch ++ 0 ∷ []) → (block : List ℕ)
        → block ≡ stamped journal.renewed.sum batch ++ 0 ∷ 0 ∷ [] → later.renewed.start ≡ journal.renewed.start
        → later.renewed.end ≡ journal.renewed.end + length block
        → later.renewed.sum ≡ adler_after journal.renewed.sum batch
        → IsRenewing seen may_leave beside servers batches (next_ones ++ batch ∷ []) later
    renewal_added batch later text same place untouched added block is starts end sum =
        let held_is : stamped journal.renewed.sum batch ≡ stamped_after journal.renewed.start next_ones batch =
        ap (λ (n : ℕ). stamped n batch) renewing.place.sum in
        record {
          rest = still_rests journal servers batches renewing.rest later same place untouched;
          texts = subst (λ (n : ℕ). AreTexts (holdings n servers (next_ones ++ batch ∷ []))) (sym starts)
              (more_texts journal.renewed.start servers next_ones renewing.texts batch (subst IsText held_is text));
          so_far = added
              ∙ ap (λ (l : List ℕ). l ++ 1 ∷ (stamped journal.renewed.sum batch ++ 0 ∷ [])) renewing.so_far
              ∙ ap (λ (l : List ℕ). blocks (holdings journal.renewed.start servers next_ones) ++ 1 ∷ (l ++ 0 ∷ [])) held_is
              ∙ one_more journal.renewed.start servers next_ones batch
              ∙ ap (λ (n : ℕ). blocks (holdings n servers (next_ones ++ batch ∷ []))) (sym starts);
          place = more_place servers next_ones journal.renewed later.renewed batch block renewing.place is starts end sum;
        }

    -- and the new file has taken the place
    pub renewed : (later : Journal D) → later.servers ≡ journal.servers → later.place ≡ journal.renewed
        → seen later.device ≡ beside journal.device ++ 0 ∷ [] → Only (seen later.device) (may_leave later.device)
        → IsAtRest seen may_leave servers next_ones later
    renewed later same place taken only =
        let starts : later.place.start ≡ journal.renewed.start = ap (λ (p : Place). p.start) place in
        record {
          texts = subst (λ (n : ℕ). AreTexts (holdings n servers next_ones)) (sym starts) renewing.texts;
          file = taken
              ∙ ap (λ (l : List ℕ). l ++ 0 ∷ []) renewing.so_far
              ∙ ap (λ (n : ℕ). at_rest (holdings n servers next_ones)) (sym starts);
          head_is = same ∙ renewing.rest.head_is;
          place = subst (λ (p : Place). IsPlace servers next_ones p) (sym place) renewing.place;
          durable = only;
        }

    pub not_taken : ((c : List ℕ) → left_since journal.device (moment journal.device) c → may_leave journal.device c)
        → LeavesOnly moment left_since journal.device journal.device (IsTaking (seen journal.device) (beside journal.device))
    not_taken now = taking_not journal.device journal.device (beside journal.device) (not_asked journal servers batches renewing.rest now)
