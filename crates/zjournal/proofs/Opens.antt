-- What a crash leaves while a file is opened.
use Rattle.std.proofs.Common.{◌≡◌, ◌<◌, ◌⊎◌, inl, inr, ℕ, List, [], ◌∷◌, ◌++◌, take, drop, refl, sym, ◌∙◌, ap, subst}
use Rattle.zjournal.specs.declared.place.Place.{Place}
use Rattle.zjournal.specs.declared.reading.Found.{Found}
use Rattle.zjournal.specs.declared.reading.Found.TheVariants.{Unmade, Unopened}
use Rattle.zjournal.specs.Device.{Only, Elapses, LeavesOnly}
use Rattle.zjournal.specs.Blocks.{at_rest}
use Rattle.zjournal.specs.CommitBytes.{IsClosing, IsOpening}
use Rattle.zjournal.specs.Journal.{head, holdings, IsBeingMade, IsUnmade, IsUnopened, Keeps, Represents}
use Rattle.zjournal.specs.Found.{KeepsTo, IsFound}
use Rattle.zjournal.proofs.Moments.{started, goes_on, joined_runs, weaker}
use Rattle.zjournal.proofs.Files.{keeps, closing_keeps, closed_rests, any_head_commit_byte}
use Rattle.zjournal.proofs.Blocks.{first_block}
use Rattle.zjournal.proofs.Readings.{files_have_one_reading, one_start}

-- what was found of the bytes is found of the file
pub found_of : (servers : ℕ) (bytes file : List ℕ) (found variant : Found) → bytes ≡ file → found ≡ variant
    → IsFound servers bytes found → IsFound servers file variant
found_of servers bytes file found variant same is h = subst (λ (f : Found). IsFound servers file f) is
    (subst (λ (b : List ℕ). IsFound servers b found) same h)

pub being_made_of : (servers : ℕ) (bytes file : List ℕ) (found : Found) → bytes ≡ file → (found ≡ Unmade) ⊎ (found ≡ Unopened)
    → IsFound servers bytes found → IsBeingMade servers file
being_made_of servers bytes file found same (inl is) h = inl (found_of servers bytes file found Unmade same is h)
being_made_of servers bytes file found same (inr is) h = let unopened = found_of servers bytes file found Unopened same is h in inr unopened.0

-- the head's commit_byte is opened
module _ (servers : ℕ) (some : 0 < servers) (file mid : List ℕ) (same : mid ≡ file) (unopened : IsUnopened servers file) where
  back : drop 1 mid ≡ head 1 servers ++ 0 ∷ 0 ∷ []
  back = ap (λ (l : List ℕ). drop 1 l) (same ∙ unopened.2)

  opening_head : (c : List ℕ) → IsOpening (take 0 mid) (drop 1 mid) c → Represents servers [] c
  opening_head c o = any_head_commit_byte servers some o.0 c (o.1 ∙ ap (λ (l : List ℕ). o.0 ∷ l) back)

  pub opened_head : (new : List ℕ) → new ≡ take 0 mid ++ 1 ∷ drop 1 mid → new ≡ at_rest (holdings 1 servers [])
  opened_head new is = is ∙ ap (λ (l : List ℕ). 1 ∷ l) back ∙ sym (first_block (head 1 servers) [] (0 ∷ []))

-- the end is closed
closing_stands : (servers : ℕ) (batches : List (List ℕ)) (place : Place) (file mid : List ℕ) → mid ≡ file → KeepsTo servers batches place file
    → (c : List ℕ) → IsClosing mid place.end c → Represents servers batches c
closing_stands servers batches place file mid same k c closing = inl (closing_keeps servers batches file place k c
    (subst (λ (f : List ℕ). IsClosing f place.end c) same closing))

pub closed_stands : (servers : ℕ) (batches : List (List ℕ)) (place : Place) (file mid : List ℕ) → mid ≡ file
    → KeepsTo servers batches place file → (new : List ℕ) → new ≡ take place.end mid ++ 0 ∷ [] → new ≡ at_rest (holdings place.start servers batches)
closed_stands servers batches place file mid same k new is = closed_rests servers batches file place k new (is
    ∙ ap (λ (l : List ℕ). take place.end l ++ 0 ∷ []) same)

-- and its first checksum continues from one sum
pub found_start : (servers : ℕ) (batches others : List (List ℕ)) (place : Place) (file : List ℕ) (k : Keeps servers batches file)
    → KeepsTo servers others place file → place.start ≡ k.start
found_start servers batches others place file k found =
    one_start servers file batches k others (record {
      start = place.start;
      is_sum = found.is_place.is_sum;
      texts = found.texts;
      end = drop place.end file;
      split = found.split;
      counts_for_nothing = found.counts_for_nothing;
    })

-- a file is read
module _ {D : Type 0} (seen : D → List ℕ) (may_leave : D → List ℕ → Type 0) (moment : D → ℕ) (left_since : D → ℕ → List ℕ
    → Type 0) (old mid : D) (only : Only (seen old) (may_leave old)) (crash : (c : List ℕ) → may_leave mid c → may_leave old c) where
  pub only_read : ((c : List ℕ) → left_since old (moment old) c → may_leave old c)
      → Elapses (moment old) (moment mid) (left_since old) (left_since mid) (may_leave mid) → LeavesOnly moment left_since old mid (λ c. c ≡ seen old)
  only_read now time =
      let P : List ℕ → Type 0 = λ c. c ≡ seen old in
      goes_on moment left_since old old mid P (may_leave mid) (started moment left_since old P (λ c left. only c (now c left)))
      time (λ c left. only c (crash c left))

  pub only_left : seen mid ≡ seen old → Only (seen mid) (may_leave mid)
  only_left same c left = only c (crash c left) ∙ sym same

-- a file that represents batches is read, and then changed
module _ {D : Type 0} (seen : D → List ℕ) (may_leave : D → List ℕ → Type 0) (moment : D → ℕ) (left_since : D → ℕ → List ℕ
    → Type 0) (old mid : D) (only : Only (seen old) (may_leave old)) (now : (c : List ℕ) → left_since old (moment old) c
    → may_leave old c) (crash : (c : List ℕ) → may_leave mid c → may_leave old c)
    (time : Elapses (moment old) (moment mid) (left_since old) (left_since mid) (may_leave mid)) (same : seen mid ≡ seen old)
    (servers : ℕ) (batches : List (List ℕ)) (stands : Represents servers batches (seen old)) where
  read_leaves : LeavesOnly moment left_since old mid (Represents servers batches)
  read_leaves =
      let P : List ℕ → Type 0 = Represents servers batches in
      goes_on moment left_since old old mid P (may_leave mid)
      (started moment left_since old P (λ c left. subst P (sym (only c (now c left))) stands)) time
      (λ c left. subst P (sym (only c (crash c left))) stands)

  -- what comes next leaves a file that represents the batches found, and these are the same
  then_leaves : (found : List (List ℕ)) → Represents servers found (seen old) → (new : D) (Q : List ℕ → Type 0)
      → LeavesOnly moment left_since mid new Q → ((c : List ℕ) → Q c → Represents servers found c)
      → LeavesOnly moment left_since old new (Represents servers batches)
  then_leaves found finds new Q second implies =
      joined_runs moment left_since old mid new (Represents servers batches) read_leaves
      (weaker moment left_since mid new Q (Represents servers batches) second
      (λ c q. subst (λ (b : List (List ℕ)). Represents servers b c) (files_have_one_reading servers (seen old) found batches finds stands)
      (implies c q)))

  pub unmade_leaves : IsUnmade servers (seen old) → (new : D) → LeavesOnly moment left_since mid new (Represents servers [])
      → LeavesOnly moment left_since old new (Represents servers batches)
  unmade_leaves unmade new second = then_leaves [] (inr (inl unmade, refl)) new (Represents servers []) second (λ c made. made)

  pub unopened_leaves : 0 < servers → IsUnopened servers (seen old) → (new : D)
      → LeavesOnly moment left_since mid new (IsOpening (take 0 (seen mid)) (drop 1 (seen mid)))
      → LeavesOnly moment left_since old new (Represents servers batches)
  unopened_leaves some unopened new second =
      then_leaves [] (inr (inr unopened, refl)) new (IsOpening (take 0 (seen mid)) (drop 1 (seen mid))) second
      (opening_head servers some (seen old) (seen mid) same unopened)

  pub kept_leaves : (found : List (List ℕ)) (place : Place) → KeepsTo servers found place (seen old) → (new : D)
      → LeavesOnly moment left_since mid new (IsClosing (seen mid) place.end) → LeavesOnly moment left_since old new (Represents servers batches)
  kept_leaves found place k new second =
      then_leaves found (inl (keeps servers found (seen old) place k)) new (IsClosing (seen mid) place.end) second
      (closing_stands servers found place (seen old) (seen mid) same k)
