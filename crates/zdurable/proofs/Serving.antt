-- A service before and after an input, before and after a block is durable, and before and after
-- its file is compacted.
use Rattle.std.proofs.Common.{◌≡◌, ℕ, ◌==◌, true, false, List, [], ◌∷◌, ◌++◌, length, refl, sym, ap, subst, ◌∙◌, append_assoc, append-nil, arith}
use Rattle.std.proofs.lemmas.Bool.Decides.{nat_tests}
use Rattle.ztree.specs.Tree.{Tree}
use Rattle.zjournal.specs.Journal.{IsAtRest}
use Rattle.zjournal.specs.Journal as journal
use Rattle.zjournal.specs.Scan.{joined}
use Rattle.zfront.specs.Front.{FrontView}
use Rattle.zfront.specs.Inputs.{ServerView}
use Rattle.zfront.specs.Restoring.{all_taken, beginning}
use Rattle.zwire.specs.records.Records.{AllFit}
use Rattle.zsnapshots.specs.folder.Entries.{Entry, AreEntries, entries_text, records_of}
use Rattle.zsnapshots.specs.folder.States.{after}
use Rattle.zsnapshots.specs.folder.Texts.{IsTextOf}
use Rattle.zsnapshots.proofs.folder_lemmas.States.{go_on}
use Rattle.zsnapshots.proofs.folder_lemmas.Apart.{texts_go_on}
use Rattle.zfront_laws.specs.Making.{took_at, took_in}
use Rattle.zfront_laws.specs.Runs.{Step, Took, Does, Runs}
use Rattle.zdurable.specs.declared.kept.DurableFront.{DurableFront}
use Rattle.zdurable.specs.Making.{HasKept, kept_since}
use Rattle.zdurable.specs.DurableFront.{IsServing, front_in, made_in, more_if}

-- ---- batches and their text

pub joined-append : (xs ys : List (List ℕ)) → joined (xs ++ ys) ≡ joined xs ++ joined ys
joined-append [] ys = refl
joined-append (x ∷ xs) ys = ap (λ (t : List ℕ). x ++ t) (joined-append xs ys) ∙ sym (append_assoc x (joined xs) (joined ys))

pub joined-more : (batches : List (List ℕ)) (batch : List ℕ) → joined (batches ++ batch ∷ []) ≡ joined batches ++ batch
joined-more batches batch = joined-append batches (batch ∷ []) ∙ ap (λ (t : List ℕ). joined batches ++ t) (append-nil batch)

-- records that have the limits of their types are those of entries that have them
pub are_entries : (entries : List Entry) → AllFit (records_of entries) → AreEntries entries
are_entries [] fit = tt
are_entries (entry ∷ entries) fit = (fit.0, are_entries entries fit.1)

-- where something was made, it is one batch more
pub some_made : (made : List Entry) (batches : List (List ℕ)) → (length made == 0) ≡ false → more_if made batches ≡ batches ++ entries_text made ∷ []
some_made [] batches some = absurd (cc some)
some_made (entry ∷ made) batches some = refl

pub made_none : (made : List Entry) → (length made == 0) ≡ true → made ≡ []
made_none [] none = refl
made_none (entry ∷ made) none =
    let zero : length (entry ∷ made) ≡ 0 = grind (arith, nat_tests, none) in
    absurd (omega (arith, zero))

-- ---- one step more

runs_more : (steps : List Step) (step : Step) (first v w : FrontView) (runs : Runs steps first v) → Does step v w
    → (more : Runs (steps ++ step ∷ []) first w) × (took_in (steps ++ step ∷ []) first w more ≡ took_in steps first v runs ++ took_at step v)
runs_more [] step first v w runs does =
    ((w, subst (λ u. Does step u w) runs does, refl), append-nil (took_at step first) ∙ ap (took_at step) (sym runs))
runs_more (next ∷ steps) step first v w runs does =
    let rest = runs_more steps step runs.0 v w runs.2 does in (
      (runs.0, runs.1, rest.0),
      ap (λ (es : List Entry). took_at next first ++ es) rest.1
          ∙ sym (append_assoc (took_at next first) (took_in steps runs.0 v runs.2) (took_at step v)),
    )

keeps_more : (t : Tree) (step : Step) (v w : FrontView) → HasKept t v → Does step v w → HasKept (after t (took_at step v)) w
keeps_more t step v w has does =
    let first = beginning has.limits has.start has.secret has.times true in
    let more = runs_more has.steps step first v w has.runs does in
    record {
      limits = has.limits;
      start = has.start;
      secret = has.secret;
      times = has.times;
      steps = has.steps ++ step ∷ [];
      runs = more.0;
      all =
          ap (λ (u : Tree). after u (took_at step v)) has.all
          ∙ sym (go_on has.start (kept_since t v has) (took_at step v))
          ∙ ap (after has.start) (sym more.1);
    }

-- a step that takes nothing makes nothing durable
keeps_same : (t : Tree) (step : Step) (v w : FrontView) → took_at step v ≡ [] → HasKept t v → Does step v w → HasKept t w
keeps_same t step v w none has does = subst (λ (u : Tree). HasKept u w) (ap (after t) none) (keeps_more t step v w has does)

module _ {D : Type 0} (seen : D → List ℕ) (may_leave : D → List ℕ → Type 0) (servers : ℕ) (batches : List (List ℕ)) (t : Tree)
    (old new : DurableFront D) (serving : IsServing seen may_leave servers batches t old) where
  -- a step at which nothing is taken
  pub step_serves : (step : Step) → took_at step (front_in old) ≡ [] → new.journal ≡ old.journal → new.front.is_broken ≡ false
      → Does step (front_in old) (front_in new) → IsServing seen may_leave servers batches t new
  step_serves step none same sound does = record {
    rest = subst (IsAtRest seen may_leave servers batches) (sym same) serving.rest;
    takes = subst journal.IsOpen (sym same) serving.takes;
    sound = sound;
    text = serving.text;
    has = keeps_same t step (front_in old) (front_in new) none serving.has does;
  }

  -- what was made is taken, and the file holds these batches
  pub taken_serves : new.front ≡ record old.front { front = all_taken (front_in old) } → (next : List (List ℕ))
      → IsAtRest seen may_leave servers next new.journal → journal.IsOpen new.journal
      → IsTextOf (after t (made_in old)) (joined next) → IsServing seen may_leave servers next (after t (made_in old)) new
  taken_serves front next rest takes text = record {
    rest = rest;
    takes = takes;
    sound = ap (λ (v : ServerView). v.is_broken) front ∙ serving.sound;
    text = text;
    has = keeps_more t Took (front_in old) (front_in new) serving.has (ap (λ (v : ServerView). v.front) front);
  }

  -- they have a block more
  pub block_serves : new.front ≡ record old.front { front = all_taken (front_in old) } → AreEntries (made_in old)
      → IsAtRest seen may_leave servers (batches ++ entries_text (made_in old) ∷ []) new.journal → journal.IsOpen new.journal
      → IsServing seen may_leave servers (batches ++ entries_text (made_in old) ∷ []) (after t (made_in old)) new
  block_serves front are rest takes =
      taken_serves front (batches ++ entries_text (made_in old) ∷ []) rest takes
      (subst (IsTextOf (after t (made_in old))) (sym (joined-more batches (entries_text (made_in old))))
      (texts_go_on t (joined batches) (made_in old) serving.text are))
