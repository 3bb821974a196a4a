-- What is at a position of a list, and of the entries of a map.
use Rattle.std.proofs.Common.{◌≡◌, ℕ, zero, suc, ◌+◌, ◌<◌, List, [], ◌∷◌, ◌++◌, length, map, drop, get_or, drop-drop}
use Rattle.std.proofs.Common.{drop_at, Some, None, refl, sym, ap, ◌∙◌, arith}
use lib.Dec.{T}
use Rattle.std.proofs.lemmas.List.{drop_more, drop-map, get_or-map, drop-append-le}
use Rattle.std.specs.declared.cmp.Ordering.{Ordering}
use Rattle.std.specs.declared.cmp.Ordering.TheVariants.{Less, Greater}
use Rattle.std.specs.Ordering.{is_lt, ordering_reverse}
use Rattle.std.specs.Cmp.{IsTotalOrder, tied_itself}
use Rattle.std.specs.FinMap as finite
use Rattle.std.specs.FinMap.{FinMap, find, is_sorted, entries_sorted, get-entries}
use Rattle.std.specs.FinMap.Entries.{below_all}
use Rattle.ztree.proofs.Sorted.{both_parts, is_less}
use Rattle.ztree.proofs.Maps.{same_some, none_some}

-- this item is at this position
abbrev pub At : {X : Type 0} → List X → ℕ → X → Type 0
At xs i x = drop i xs ≡ x ∷ drop (i + 1) xs

module _ {X : Type 0} where
  pub at_left : (xs ys : List X) (i : ℕ) (x : X) → i < length xs → At xs i x → At (xs ++ ys) i x
  at_left xs ys i x within at =
      drop-append-le i xs ys (omega (arith, within)) ∙ ap (λ zs. zs ++ ys) at
      ∙ sym (ap (λ zs. x ∷ zs) (drop-append-le (i + 1) xs ys (omega (arith, within))))

  drop-append-add : (xs ys : List X) (n : ℕ) → drop (length xs + n) (xs ++ ys) ≡ drop n ys
  drop-append-add xs ys n = sym (drop-drop n (length xs) (xs ++ ys)) ∙ ap (drop n) (drop_at xs ys (length xs) refl)

  pub at_right : (xs ys : List X) (i : ℕ) (x : X) → At ys i x → At (xs ++ ys) (length xs + i) x
  at_right xs ys i x at =
      let next : length xs + i + 1 ≡ length xs + (i + 1) = omega arith in
      drop-append-add xs ys i ∙ at
      ∙ sym (ap (λ zs. x ∷ zs) (ap (λ (k : ℕ). drop k (xs ++ ys)) next ∙ drop-append-add xs ys (i + 1)))

  pub at_below : (xs : List X) (i : ℕ) (x : X) → At xs (i + 1) x → At (drop 1 xs) i x
  at_below xs i x at =
      let here : 1 + i ≡ i + 1 = omega arith in
      let next : 1 + (i + 1) ≡ i + 1 + 1 = omega arith in
      drop-drop i 1 xs ∙ ap (λ (k : ℕ). drop k xs) here ∙ at
      ∙ sym (ap (λ zs. x ∷ zs) (drop-drop (i + 1) 1 xs ∙ ap (λ (k : ℕ). drop k xs) next))

pub at_map : {X Y : Type 0} (f : X → Y) (xs : List X) (i : ℕ) (x : X) → At xs i x → At (map f xs) i (f x)
at_map f xs i x at = drop-map f i xs ∙ ap (map f) at ∙ ap (λ zs. f x ∷ zs) (sym (drop-map f (i + 1) xs))

module _ {K X : Type 0} {R : K → K → Ordering} (o : IsTotalOrder R) where
  below_nth : (x : K) (es : List (K × X)) (i : ℕ) (d : K × X) → i < length es → T (below_all R x es) → R x (get_or es i d).0 ≡ Less
  below_nth x [] i d within low = absurd (omega (arith, within))
  below_nth x (e ∷ es) zero d within low = is_less _ (both_parts (is_lt (R x e.0)) (below_all R x es) low).0
  below_nth x (e ∷ es) (suc i) d within low =
      below_nth x es i d (omega (arith, within)) (both_parts (is_lt (R x e.0)) (below_all R x es) low).1

  found_nth : (es : List (K × X)) (i : ℕ) (d : K × X) → T (is_sorted R es) → i < length es → find R (get_or es i d).0 es ≡ Some (get_or es i d).1
  found_nth [] i d sorted within = absurd (omega (arith, within))
  found_nth (e ∷ es) zero d sorted within = rw (tied_itself o e.0) refl
  found_nth (e ∷ es) (suc i) d sorted within =
      let parts = both_parts (below_all R e.0 es) (is_sorted R es) sorted in
      let less = below_nth e.0 es i d (omega (arith, within)) parts.0 in
      let greater : R (get_or es i d).0 e.0 ≡ Greater = o.antisymm (get_or es i d).0 e.0 ∙ ap ordering_reverse less in
      rw greater (found_nth es i d parts.1 (omega (arith, within)))

  module _ (m : FinMap R X) (ks : List K) (i : ℕ) (k : K) (is : ks ≡ map (λ e. e.0) (finite.entries m))
      (within : i < length (finite.entries m)) (at : k ≡ get_or ks i k) where
    key_is : (v : X) → k ≡ (get_or (finite.entries m) i (k, v)).0
    key_is v = at ∙ ap (λ ks. get_or ks i k) is ∙ get_or-map (λ (e : K × X). e.0) (finite.entries m) i (k, v) k within

    found_is : (v : X) → finite.get m k ≡ Some (get_or (finite.entries m) i (k, v)).1
    found_is v =
        get-entries m k ∙ ap (λ q. find R q (finite.entries m)) (key_is v)
        ∙ found_nth (finite.entries m) i (k, v) (entries_sorted m) within

    -- the entry with this key is at the key's position
    pub entry_at : (v : X) → finite.get m k ≡ Some v → At (finite.entries m) i (k, v)
    entry_at v there =
        let value : (get_or (finite.entries m) i (k, v)).1 ≡ v = same_some _ v (sym (found_is v) ∙ there) in
        let both : get_or (finite.entries m) i (k, v) ≡ (k, v) = λ j. (sym (key_is v) j, value j) in
        drop_more (finite.entries m) i (k, v) within ∙ ap (λ e. e ∷ drop (i + 1) (finite.entries m)) both

    -- it is there
    pub entry_there : X → finite.get m k ≡ None → ⊥
    entry_there v none = none_some _ (sym none ∙ found_is v)

    pub entry_there_at : finite.get m k ≡ None → ⊥
    entry_there_at none = by (finite.entries m) refl
      where
        by : (es : List (K × X)) → finite.entries m ≡ es → ⊥
        by [] empty = let none : length (finite.entries m) ≡ 0 = ap length empty in omega (arith, within, none)
        by (e ∷ es) some = entry_there e.1 none
