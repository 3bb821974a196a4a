-- How the blocks of a file are found, one after the other.
use Rattle.std.proofs.Common.{◌≡◌, ◌≢◌, ℕ, ◌+◌, ◌-◌, ◌<◌, ◌≤◌, List, [], ◌∷◌, ◌++◌, length, get_or, take, drop}
use Rattle.std.proofs.Common.{zero, suc, refl, sym, ◌∙◌, ap, subst, arith, append_assoc, length-append}
use Rattle.std.proofs.lemmas.List.{append-nil, take_at, drop_all, drop_more}
use Rattle.zjournal.specs.Blocks.{IsText, AreTexts, blocks, IsEnd}
use Rattle.zjournal.specs.Checksum.{adler_after, stamped, stamped_all}
use Rattle.zjournal.specs.declared.place.Place.{Place}
use Rattle.zjournal.specs.Scan.{EndsAt, IsBatch, IsNoBatch, AreBatches, joined}
use Rattle.zjournal.proofs.Blocks.{blocks-push, length-blocks-push, texts-push, first_zero, no_zero}
use Rattle.zjournal.proofs.Sums.{sum-push, stamped-push}

-- what was read of a text so far
abbrev pub ReadsTo : List ℕ → ℕ → ℕ → Type 0
ReadsTo bytes start at = (text : List ℕ) × (drop start bytes ≡ text ++ drop at bytes) × (at ≡ start + length text) × IsText text

text-push : (text : List ℕ) (b : ℕ) → IsText text → b ≢ 0 → IsText (text ++ b ∷ [])
text-push [] b h not = (not, tt)
text-push (x ∷ text) b h not = (h.0, text-push text b h.1 not)

pub reads_on : (bytes : List ℕ) (start at : ℕ) → ReadsTo bytes start at → at < length bytes → get_or bytes at 0 ≢ 0 → ReadsTo bytes start (at + 1)
reads_on bytes start at r within not = (
  r.0 ++ get_or bytes at 0 ∷ [],
  r.1 ∙ ap (λ (l : List ℕ). r.0 ++ l) (drop_more bytes at 0 within) ∙ sym (append_assoc r.0 (get_or bytes at 0 ∷ []) (drop (at + 1) bytes)),
  (let is = r.2 in omega (arith, is, length-append r.0 (get_or bytes at 0 ∷ []))),
  text-push r.0 (get_or bytes at 0) r.3 not,
)

pub reads_end : (bytes : List ℕ) (start at : ℕ) → ReadsTo bytes start at → at < length bytes → get_or bytes at 0 ≡ 0 → EndsAt bytes start at
reads_end bytes start at r within is = (
  within,
  (r.0, r.1 ∙ ap (λ (l : List ℕ). r.0 ++ l) (drop_more bytes at 0 within ∙ ap (λ (b : ℕ). b ∷ drop (at + 1) bytes) is), r.2, r.3),
)

pub reads_all : (bytes : List ℕ) (start at : ℕ) → ReadsTo bytes start at → length bytes ≤ at → IsText (drop start bytes)
reads_all bytes start at r past = subst IsText (sym (r.1 ∙ ap (λ (l : List ℕ). r.0 ++ l) (drop_all at bytes past) ∙ append-nil r.0)) r.3

pub text_slice : (bytes : List ℕ) (start at : ℕ) (ends : EndsAt bytes start at) → take (at - start) (drop start bytes) ≡ ends.1.0
text_slice bytes start at ends =
    let place = ends.1.2 in
    ap (λ (l : List ℕ). take (at - start) l) ends.1.1 ∙ take_at ends.1.0 (0 ∷ drop (at + 1) bytes) (at - start) (omega (arith, place))

-- a text that doesn't end is no batch
pub endless_is_none : (bytes : List ℕ) (place : Place) → IsText (drop (place.end + 1) bytes) → IsNoBatch bytes place
endless_is_none bytes place text batch more h is = no_zero (stamped place.sum batch) more (subst IsText is text)

-- a text after no checksum of its own is no batch
pub other_is_none : (bytes : List ℕ) (place : Place) (at : ℕ) → (ends : EndsAt bytes (place.end + 1) at)
    → ((text : List ℕ) → ends.1.0 ≡ stamped place.sum text → ⊥) → IsNoBatch bytes place
other_is_none bytes place at ends none batch more h is =
    none batch (first_zero ends.1.0 (stamped place.sum batch) (drop (at + 1) bytes) more ends.1.3 h (sym ends.1.1 ∙ is)).0

-- a text after its checksum is one
pub checked_is_batch : (bytes : List ℕ) (place there : Place) (at sum : ℕ) (ends : EndsAt bytes (place.end + 1) at) (text : List ℕ)
    → ends.1.0 ≡ stamped place.sum text → sum ≡ adler_after place.sum text → there.start ≡ place.start → there.end ≡ at + 1
    → there.sum ≡ sum → IsBatch bytes place text there
checked_is_batch bytes place there at sum ends text is sum_is start end goes_on =
    let within = ends.0 in let place_is = ends.1.2 in
    record {
      text = subst IsText is ends.1.3;
      within = omega (arith, within, end);
      stands = ends.1.1
          ∙ ap (λ (l : List ℕ). l ++ 0 ∷ drop (at + 1) bytes) is
          ∙ ap (λ (n : ℕ). stamped place.sum text ++ 0 ∷ drop n bytes) (sym end);
      long = omega (arith, place_is, end, ap length is);
      same = start;
      goes_on = goes_on ∙ sum_is;
    }

-- no batch yet
pub no_batches : (bytes : List ℕ) (start : Place) → start.end ≤ length bytes → AreBatches bytes start [] start
no_batches bytes start within =
    record { texts = tt; within = within; stand = refl; long = omega arith; same = refl; goes_on = refl }

-- one batch more
pub more_batches : (bytes : List ℕ) (start place there : Place) (batches : List (List ℕ)) (batch : List ℕ)
    → AreBatches bytes start batches place → place.end < length bytes → get_or bytes place.end 0 ≡ 1
    → IsBatch bytes place batch there → AreBatches bytes start (batches ++ batch ∷ []) there
more_batches bytes start place there batches batch so_far within set_commit_byte one =
    let all = stamped_all start.sum batches in
    let held = stamped place.sum batch in
    let more : stamped_all start.sum (batches ++ batch ∷ []) ≡ all ++ held ∷ [] =
    stamped-push start.sum batches batch ∙ ap (λ (n : ℕ). all ++ stamped n batch ∷ []) (sym so_far.goes_on) in
    record {
      texts = subst AreTexts (sym more) (texts-push all held so_far.texts one.text);
      within = one.within;
      stand = so_far.stand
          ∙ ap (λ (l : List ℕ). blocks all ++ l) (drop_more bytes place.end 0 within
          ∙ ap (λ (g : ℕ). g ∷ drop (place.end + 1) bytes) set_commit_byte ∙ ap (λ (l : List ℕ). 1 ∷ l) one.stands)
          ∙ sym (blocks-push all held (drop there.end bytes))
          ∙ ap (λ (l : List (List ℕ)). blocks l ++ drop there.end bytes) (sym more);
      long = (let longer = ap (λ (l : List (List ℕ)). length (blocks l)) more in
          omega (arith, so_far.long, one.long, longer, length-blocks-push all held));
      same = one.same ∙ so_far.same;
      goes_on = one.goes_on
          ∙ ap (λ (n : ℕ). adler_after n batch) so_far.goes_on
          ∙ sym (sum-push start.sum batches batch);
    }

pub joined_more : (batches : List (List ℕ)) (batch : List ℕ) → joined (batches ++ batch ∷ []) ≡ joined batches ++ batch
joined_more [] batch = append-nil batch
joined_more (b ∷ batches) batch = ap (λ (l : List ℕ). b ++ l) (joined_more batches batch) ∙ sym (append_assoc b (joined batches) batch)

-- where the loop over the blocks ends, an end begins
pub short_end : (bytes : List ℕ) (end : ℕ) → length bytes ≤ end + 1 → IsEnd (drop end bytes)
short_end [] end short = none end
  where
    none : (end : ℕ) → IsEnd (drop end [])
    none zero = tt
    none (suc end) = tt
short_end (b ∷ []) zero short = tt
short_end (b ∷ c ∷ bytes) zero short = absurd (omega (arith, short))
short_end (b ∷ bytes) (suc end) short = short_end bytes end (omega (arith, short))

pub shut_end : (bytes : List ℕ) (end : ℕ) → end < length bytes → get_or bytes end 0 ≢ 1 → IsEnd (drop end bytes)
shut_end bytes end within shut = subst IsEnd (sym (drop_more bytes end 0 within)) (closed (drop (end + 1) bytes))
  where
    closed : (rest : List ℕ) → IsEnd (get_or bytes end 0 ∷ rest)
    closed [] = tt
    closed (b ∷ rest) = shut

pub open_commit_byte_is : (bytes : List ℕ) (commit_byte : ℕ) → commit_byte < length bytes → get_or bytes commit_byte 0 ≡ 1 → drop commit_byte bytes ≡ 1 ∷ drop (commit_byte + 1) bytes
open_commit_byte_is bytes commit_byte within is = drop_more bytes commit_byte 0 within ∙ ap (λ (g : ℕ). g ∷ drop (commit_byte + 1) bytes) is
