-- What a run of calls on a `Slots` leaves of its Ids.
use Rattle.std.proofs.Common.{◌≡◌, ◌≢◌, ◌⊎◌, inl, inr, ℕ, ◌+◌, ◌<◌, ◌≤◌, List, [], ◌∷◌, Option, Some, None, IsSome, sym, ap, ◌∙◌, arith}
use mathlib.Core.Path.{subst}
use Rattle.std.specs.FinMap.{get-empty, get, remove}
use Rattle.zslots.specs.declared.id.Id.{Id}
use Rattle.zslots.specs.Generations.{generation_number}
use Rattle.zslots.specs.Ids.{id_cmp, Ids, NotIn, NoTwo}
use Rattle.zslots.specs.SlotsView.{SlotsView, empty_slots, NamesGivenIds}
use Rattle.zslots.specs.Runs.{Change, IsChange, IsRun, ids_of_run}
use Rattle.zslots.specs.Runs.Change.{Insert, Remove, Write}
use Rattle.zslots.proofs.Maps.{same_or_other, get-insert-elsewhere, get-remove-here, get-remove-elsewhere}

-- no Id of the list has a generation below this one
abbrev pub NoneBelow : ℕ → Ids → Type 0
NoneBelow given [] = Unit {0}
NoneBelow given (id ∷ ids) = (given ≤ generation_number id.generation) × NoneBelow given ids

NoneBelow-NotIn : (id : Id) (ids : Ids) → NoneBelow (generation_number id.generation + 1) ids → NotIn id ids
NoneBelow-NotIn id [] b = tt
NoneBelow-NotIn id (other ∷ ids) b =
    (λ e. let same : generation_number id.generation ≡ generation_number other.generation = ap (λ (i : Id). generation_number i.generation) e in absurd (omega (arith, b.0)), NoneBelow-NotIn id ids b.1)

NoneBelow-less : (a b : ℕ) (ids : Ids) → a ≤ b → NoneBelow b ids → NoneBelow a ids
NoneBelow-less a b [] le h = tt
NoneBelow-less a b (id ∷ ids) le h = (omega (arith, h.0), NoneBelow-less a b ids le h.1)

there : {A : Type 0} (o : Option A) → o ≡ None → IsSome o → ⊥
there None e s = cc
there (Some x) e s = cc

module _ {T : Type 0} where
  -- the Ids of a run are given in order, from the number that was given before
  run-above : (s t : SlotsView T) (changes : List (Change T)) → IsRun s changes t → NoneBelow s.given (ids_of_run changes)
  run-above s t [] run = tt
  run-above s t (Insert id item ∷ changes) run =
      (omega (arith, run.1.0.0), NoneBelow-less s.given run.0.given (ids_of_run changes) (omega (arith, run.1.2)) (run-above run.0 t changes run.2))
  run-above s t (Remove id ∷ changes) run = NoneBelow-less s.given run.0.given (ids_of_run changes) (omega (arith, run.1.1)) (run-above run.0 t changes run.2)
  run-above s t (Write id item ∷ changes) run = NoneBelow-less s.given run.0.given (ids_of_run changes) (omega (arith, run.1.2)) (run-above run.0 t changes run.2)

  pub run-no_two : (s t : SlotsView T) (changes : List (Change T)) → IsRun s changes t → NoTwo (ids_of_run changes)
  run-no_two s t [] run = tt
  run-no_two s t (Insert id item ∷ changes) run =
      let later = run-above run.0 t changes run.2 in
      (NoneBelow-NotIn id (ids_of_run changes) (NoneBelow-less (generation_number id.generation + 1) run.0.given (ids_of_run changes) (omega (arith, run.1.0.0, run.1.2)) later), run-no_two run.0 t changes run.2)
  run-no_two s t (Remove id ∷ changes) run = run-no_two run.0 t changes run.2
  run-no_two s t (Write id item ∷ changes) run = run-no_two run.0 t changes run.2

  -- each Id that names an item was given, after a call too
  known-changed : (s t : SlotsView T) (change : Change T) → IsChange s change t → NamesGivenIds s → NamesGivenIds t
  known-changed s t (Insert id item) is known q has = by (same_or_other q id)
    where
      by : (q ≡ id) ⊎ (q ≢ id) → generation_number q.generation < t.given
      by (inl e) = let same : generation_number q.generation ≡ generation_number id.generation = ap (λ (i : Id). generation_number i.generation) e in omega (arith, same, is.0.0, is.2)
      by (inr other) =
          let below = known q (subst IsSome (ap (λ m. get m q) is.1 ∙ get-insert-elsewhere s.items id item q other) has) in
          omega (arith, below, is.2)
  known-changed s t (Remove id) is known q has = by (same_or_other q id)
    where
      by : (q ≡ id) ⊎ (q ≢ id) → generation_number q.generation < t.given
      by (inl e) = absurd (there (get t.items q) (ap (λ m. get m q) is.0 ∙ ap (get (remove s.items id)) e ∙ get-remove-here s.items id) has)
      by (inr other) =
          let below = known q (subst IsSome (ap (λ m. get m q) is.0 ∙ get-remove-elsewhere s.items id q other) has) in
          omega (arith, below, is.1)
  known-changed s t (Write id item) is known q has = by (same_or_other q id)
    where
      by : (q ≡ id) ⊎ (q ≢ id) → generation_number q.generation < t.given
      by (inl e) = let below = known q (subst (λ i. IsSome (get s.items i)) (sym e) is.0) in omega (arith, below, is.2)
      by (inr other) =
          let below = known q (subst IsSome (ap (λ m. get m q) is.1 ∙ get-insert-elsewhere s.items id item q other) has) in
          omega (arith, below, is.2)

  known-run : (s t : SlotsView T) (changes : List (Change T)) → IsRun s changes t → NamesGivenIds s → NamesGivenIds t
  known-run s t [] run known =
      λ q has.
      let below = known q (subst IsSome (ap (λ m. get m q) run.0) has) in
      omega (arith, below, run.1)
  known-run s t (change ∷ changes) run known = known-run run.0 t changes run.2 (known-changed s run.0 change run.1 known)

  -- an Id that was given and names nothing, names nothing after a call
  absent-changed : (s t : SlotsView T) (change : Change T) (q : Id) → IsChange s change t → generation_number q.generation < s.given → get s.items q ≡ None → (generation_number q.generation < t.given) × (get t.items q ≡ None)
  absent-changed s t (Insert id item) q is below none =
      let other : q ≢ id = λ e. let same : generation_number q.generation ≡ generation_number id.generation = ap (λ (i : Id). generation_number i.generation) e in absurd (omega (arith, same, is.0.0, below)) in
      (omega (arith, below, is.2), ap (λ m. get m q) is.1 ∙ get-insert-elsewhere s.items id item q other ∙ none)
  absent-changed s t (Remove id) q is below none = (omega (arith, below, is.1), ap (λ m. get m q) is.0 ∙ by (same_or_other q id))
    where
      by : (q ≡ id) ⊎ (q ≢ id) → get (remove s.items id) q ≡ None
      by (inl e) = ap (get (remove s.items id)) e ∙ get-remove-here s.items id
      by (inr other) = get-remove-elsewhere s.items id q other ∙ none
  absent-changed s t (Write id item) q is below none =
      let other : q ≢ id = λ e. there (get s.items id) (ap (get s.items) (sym e) ∙ none) is.0 in
      (omega (arith, below, is.2), ap (λ m. get m q) is.1 ∙ get-insert-elsewhere s.items id item q other ∙ none)

  absent-run : (s t : SlotsView T) (changes : List (Change T)) (q : Id) → IsRun s changes t → generation_number q.generation < s.given → get s.items q ≡ None → get t.items q ≡ None
  absent-run s t [] q run below none = ap (λ m. get m q) run.0 ∙ none
  absent-run s t (change ∷ changes) q run below none =
      let more = absent-changed s run.0 change q run.1 below none in
      absent-run run.0 t changes q run.2 more.0 more.1

  pub removed-run : (s t u : SlotsView T) (id : Id) (before after : List (Change T)) → IsRun empty_slots before s → IsSome (get s.items id) → IsChange s (Remove id) t → IsRun t after u → get u.items id ≡ None
  removed-run s t u id before after run has is more =
      let below = known-run empty_slots s before run (λ q h. absurd (there (get empty_slots.items q) (get-empty id_cmp q) h)) id has in
      absent-run t u after id more (omega (arith, below, is.1)) (ap (λ m. get m id) is.0 ∙ get-remove-here s.items id)
