-- A list in the order of its elements, each once.
use Rattle.std.proofs.Common.{◌≡◌, Bool, true, false, cond, ◌||◌, List, [], ◌∷◌, length, map, Option, None, Some, refl, sym, ap, ◌∙◌, arith}
use Rattle.std.specs.declared.cmp.Ordering.{Ordering}
use Rattle.std.specs.declared.cmp.Ordering.TheVariants.{Less}
use Rattle.std.specs.Ordering.{eq_by_cmp}
use Rattle.std.specs.Cmp.{IsTotalOrder, IsEquivalence, Equal-is, both_ways, eq_by_cmp_equiv}
use Rattle.std.specs.List.{AllByRecursion, list_any, dedup}
use Rattle.std.specs.List.Sorted.{IsStrictlySortedBy, IsSorted, IsPermutation}
use Rattle.std.specs.FinMap.{FinMap, IsAntisymmetric, empty, entries, entries-insert, from_entries, find, get, get-from_entries, keys, len-empty, len-entries, same_map}
use Rattle.std.specs.FinMap.Entries.{put}
use Rattle.std.proofs.lemmas.List.Folds.{list_any-from_Any}
use Rattle.std.proofs.lemmas.List.Kept.{Any-dedup, Contains-from_dedup, IsStrictlySortedBy-dedup}
use Rattle.std.proofs.lemmas.List.Sorted.{list_any-IsPermutation}
use Rattle.std.proofs.lemmas.Map.Views.{Contains-from_any, list_any-from_Contains}

no_items : {A : Type 0} (xs : List A) → length xs ≡ 0 → xs ≡ []
no_items [] none = refl
no_items (x ∷ xs) none = absurd (omega (arith, none))

module _ {K : Type 0} {R : K → K → Ordering} (o : IsTotalOrder R) (same : IsAntisymmetric R) where
  -- the elements, as keys of a map
  abbrev marked : List K → List (K × Unit {0})
  marked xs = map (λ x. (x, tt)) xs

  abbrev as_map : List K → FinMap R (Unit {0})
  as_map xs = from_entries {R = R} (marked xs)

  keys-marked : (xs : List K) → map (λ e. e.0) (marked xs) ≡ xs
  keys-marked [] = refl
  keys-marked (x ∷ xs) = ap (λ ys. x ∷ ys) (keys-marked xs)

  put-first : (x : K) (xs : List K) → AllByRecursion (λ y. R x y ≡ Less) xs → put R x tt (marked xs) ≡ (x, tt) ∷ marked xs
  put-first x [] below = refl
  put-first x (y ∷ ys) below = rw below.0 refl

  entries-marked : (xs : List K) → IsStrictlySortedBy R xs → entries (as_map xs) ≡ marked xs
  unfolding IsStrictlySortedBy
  entries-marked [] rising = no_items _ (sym (len-entries empty) ∙ len-empty R (Unit {0}))
  entries-marked (x ∷ xs) rising =
      entries-insert o (as_map xs) x tt ∙ ap (put R x tt) (entries-marked xs rising.1) ∙ put-first x xs rising.0

  found : Bool → Option (Unit {0})
  found b = cond b (Some tt) None

  find-marked : (xs : List K) (q : K) → find R q (marked xs) ≡ found (list_any (eq_by_cmp R q) xs)
  unfolding found
  find-marked [] q = refl
  find-marked (x ∷ xs) q =
      elim (eq_by_cmp R q x) as (λ b. cond b (Some tt) (find R q (marked xs)) ≡ found (b || list_any (eq_by_cmp R q) xs)) [
        | true ↦ refl
        | false ↦ find-marked xs q
      ]

  get-marked : (xs : List K) (q : K) → get (as_map xs) q ≡ found (list_any (eq_by_cmp R q) xs)
  get-marked xs q = get-from_entries o (marked xs) q ∙ find-marked xs q

  -- the same members make the same map
  same_members : (xs ys : List K) → ((q : K) → list_any (eq_by_cmp R q) xs ≡ list_any (eq_by_cmp R q) ys) → as_map xs ≡ as_map ys
  same_members xs ys alike = same_map o same _ _ (λ q. get-marked xs q ∙ ap found (alike q) ∙ sym (get-marked ys q))

  -- a rising list with the same members has them in order
  pub rising-members : (xs ys : List K) → IsStrictlySortedBy R xs → ((q : K) → list_any (eq_by_cmp R q) xs ≡ list_any (eq_by_cmp R q) ys) → xs ≡ keys (as_map ys)
  rising-members xs ys rising alike =
      sym (keys-marked xs) ∙ ap (map (λ e. e.0)) (sym (entries-marked xs rising)) ∙ ap keys (same_members xs ys alike)

  tied : (x y : K) → eq_by_cmp R x y ≡ true → x ≡ y
  tied x y e = same x y ((Equal-is (R x y)).0 e)

  module _ {E : K → K → Bool} (e : IsEquivalence E) (ties : (x y : K) → E x y ≡ eq_by_cmp R x y) where
    dedup_members : (xs : List K) (q : K) → list_any (eq_by_cmp R q) (dedup E xs) ≡ list_any (eq_by_cmp R q) xs
    dedup_members xs q = both_ways _ _
        (λ one. list_any-from_Contains (eq_by_cmp_equiv o) q xs (Contains-from_dedup E xs q (Contains-from_any tied q (dedup E xs) one)))
        (λ one.
        let kept = Any-dedup e xs q (Contains-from_any tied q xs one) in
        list_any-from_Any (eq_by_cmp R q) (dedup E xs) (kept.0, kept.1, kept.2, kept.3, sym (ties q kept.1) ∙ kept.4))

    -- sorted, and without what equals the element before it
    pub rising-dedup : (xs ys zs : List K) → IsPermutation xs ys → IsSorted R ys → zs ≡ dedup E ys → zs ≡ keys (as_map xs)
    rising-dedup xs ys zs moved sorted is =
        is
        ∙ rising-members (dedup E ys) xs (IsStrictlySortedBy-dedup o ties ys sorted)
        (λ q. dedup_members ys q ∙ sym (list_any-IsPermutation (eq_by_cmp R q) xs ys moved))
