-- Keys in order: one above those before it goes to the end.
use Rattle.std.proofs.Common.{◌≡◌, true, false, List, [], ◌∷◌, ◌++◌, Option, Some, None, refl, sym, ap, subst, ◌∙◌}
use lib.Dec.{T}
use Rattle.std.proofs.lemmas.List.{nil_from_length}
use Rattle.std.specs.declared.cmp.Ordering.{Ordering}
use Rattle.std.specs.declared.cmp.Ordering.TheVariants.{Less, Equal, Greater}
use Rattle.std.specs.Ordering.{is_lt, ordering_reverse}
use Rattle.std.specs.Cmp.{IsTotalOrder}
use Rattle.std.specs.FinMap as finite
use Rattle.std.specs.FinMap.{FinMap, put, is_sorted, entries_sorted, entries-insert, len-entries, len-empty}
use Rattle.std.specs.FinMap.Entries.{below_all}
use Rattle.ztree.proofs.Sorted.{both_parts, is_less}
use Rattle.ztree.proofs.Maps.{same_some, none_some}
use Rattle.zsnapshots.specs.States.{IsAbove}
use Rattle.zsnapshots.specs.support.Reading.{last_key, is_above}

-- an empty map has no entry
pub entries-empty : {K X : Type 0} (R : K → K → Ordering) → finite.entries (finite.empty {X = X} {R = R}) ≡ []
entries-empty {X = X} R = nil_from_length _ (sym (len-entries (finite.empty {X = X} {R = R})) ∙ len-empty R X)

less_is : (r : Ordering) → is_lt r ≡ true → r ≡ Less
less_is Less is = refl
less_is Equal is = absurd (let bad : false ≡ true = is in cc)
less_is Greater is = absurd (let bad : false ≡ true = is in cc)

module _ {K X : Type 0} where
  some_last : (e : K × X) (es : List (K × X)) → (k : K) × (last_key (e ∷ es) ≡ Some k)
  some_last e [] = (e.0, refl)
  some_last e (f ∷ es) = some_last f es

  no_last : (es : List (K × X)) → None ≡ last_key es → es ≡ []
  no_last [] none = refl
  no_last (e ∷ es) none = let last = some_last e es in absurd (none_some last.0 (none ∙ last.1))

  -- the key that is put at the end is the last one
  pub last_key-push : (es : List (K × X)) (e : K × X) → last_key (es ++ e ∷ []) ≡ Some e.0
  last_key-push [] e = refl
  last_key-push (f ∷ []) e = refl
  last_key-push (f ∷ (g ∷ es)) e = last_key-push (g ∷ es) e

module _ {K X : Type 0} (R : K → K → Ordering) where
  below_next : (x : K) (es after : List (K × X)) (e : K × X) → T (below_all R x (es ++ e ∷ after)) → R x e.0 ≡ Less
  below_next x [] after e low =
      is_less _ (both_parts (is_lt (R x e.0)) (below_all R x after) low).0
  below_next x (f ∷ es) after e low =
      below_next x es after e (both_parts (is_lt (R x f.0)) (below_all R x (es ++ e ∷ after)) low).1

  -- what comes next in order is above those before it
  pub next_above : (es after : List (K × X)) (e : K × X) → T (is_sorted R (es ++ e ∷ after)) → IsAbove R es e.0
  next_above [] after e sorted = tt
  next_above (f ∷ es) after e sorted =
      let parts = both_parts (below_all R f.0 (es ++ e ∷ after)) (is_sorted R (es ++ e ∷ after)) sorted in
      (below_next f.0 es after e parts.0, next_above es after e parts.1)

  last_below : (k last : K) (es : List (K × X)) → last_key es ≡ Some last → IsAbove R es k → R last k ≡ Less
  last_below k last [] is above = absurd (none_some last is)
  last_below k last (e ∷ []) is above = subst (λ x. R x k ≡ Less) (same_some e.0 last is) above.0
  last_below k last (e ∷ (f ∷ es)) is above = last_below k last (f ∷ es) is above.1

  -- a key that isn't above the last isn't above all
  pub not_above : (before : Option K) (k : K) (es : List (K × X)) → before ≡ last_key es → is_above R before k ≡ false → IsAbove R es k → ⊥
  not_above None k es last test above = let bad : true ≡ false = test in cc
  not_above (Some before) k es last test above =
      let bad : true ≡ false = sym (ap is_lt (last_below k before es (sym last) above)) ∙ test in cc

  module _ (o : IsTotalOrder R) where
    above_last : (k last : K) (es : List (K × X)) → T (is_sorted R es) → last_key es ≡ Some last → R last k ≡ Less → IsAbove R es k
    above_last k last [] sorted is less = tt
    above_last k last (e ∷ []) sorted is less = (subst (λ x. R x k ≡ Less) (sym (same_some e.0 last is)) less, tt)
    above_last k last (e ∷ (f ∷ es)) sorted is less =
        let parts = both_parts (below_all R e.0 (f ∷ es)) (is_sorted R (f ∷ es)) sorted in
        let low = both_parts (is_lt (R e.0 f.0)) (below_all R e.0 es) parts.0 in
        let more = above_last k last (f ∷ es) parts.1 is less in
        (o.trans e.0 f.0 k (is_less _ low.0) more.0, more)

    -- a key above the last is above all
    pub all_above : (before : Option K) (k : K) (es : List (K × X)) → T (is_sorted R es) → before ≡ last_key es
        → is_above R before k ≡ true → IsAbove R es k
    all_above None k es sorted last test = subst (λ es. IsAbove R es k) (sym (no_last es last)) tt
    all_above (Some before) k es sorted last test = above_last k before es sorted (sym last) (less_is (R before k) test)

    put_above : (k : K) (v : X) (es : List (K × X)) → IsAbove R es k → put R k v es ≡ es ++ (k, v) ∷ []
    put_above k v [] above = refl
    put_above k v (e ∷ es) above =
        let greater : R k e.0 ≡ Greater = o.antisymm k e.0 ∙ ap ordering_reverse above.0 in
        rw greater (ap (λ es. e ∷ es) (put_above k v es above.1))

module _ {K X : Type 0} {R : K → K → Ordering} (o : IsTotalOrder R) where
  -- a key above all others goes to the end
  pub entries-insert_above : (m : FinMap R X) (k : K) (v : X) → IsAbove R (finite.entries m) k
      → finite.entries (finite.insert m k v) ≡ finite.entries m ++ (k, v) ∷ []
  entries-insert_above m k v above = entries-insert o m k v ∙ put_above R o k v (finite.entries m) above

  -- what is above the last entry of a map
  pub map_above : (m : FinMap R X) (before : Option K) (k : K) → before ≡ last_key (finite.entries m) → is_above R before k ≡ true
      → IsAbove R (finite.entries m) k
  map_above m before k last test = all_above R o before k (finite.entries m) (entries_sorted m) last test
