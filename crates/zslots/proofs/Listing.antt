-- The keys of a map, in their order: such a list is fixed by the keys that are in it.
use Rattle.std.proofs.Common.{◌≡◌, ◌+◌, Bool, ◌&&◌, true, false, List, [], ◌∷◌, map, get_or, Option, Some, None, refl, sym, ap, ◌∙◌, arith}
use lib.Dec.{T}
use Rattle.std.specs.Prelude.{is_some, IsPermutation, IsSorted}
use Rattle.std.specs.declared.cmp.Ordering.{Ordering}
use Rattle.std.specs.declared.cmp.Ordering.TheVariants.{Less, Equal, Greater}
use Rattle.std.specs.Ordering.{is_lt, is_eq, eq_by_cmp, ordering_reverse}
use Rattle.std.specs.List.{list_any, AllByRecursion, IsDistinct}
use Rattle.std.specs.List.Sorted.{IsStrictlySortedBy}
use Rattle.std.specs.Cmp.{IsTotalOrder, eq_by_cmp_equiv}
use Rattle.std.specs.Map.{keys_of}
use Rattle.std.specs.FinMap as finite
use Rattle.std.specs.FinMap.{FinMap, IsAntisymmetric, find, is_sorted, entries_sorted, get-entries, get-from_entries, from_entries}
use Rattle.std.specs.FinMap.Entries.{below_all, same_entries, is_some-find}
use Rattle.std.proofs.lemmas.Map.Keys.{IsDistinct-IsPermutation, sorted_from_all_adjacent, apart_from_distinct}
use Rattle.std.proofs.lemmas.List.Sorted.{list_any-IsPermutation}

same_unit : (o p : Option (Unit {0})) → is_some o ≡ is_some p → o ≡ p
same_unit None None e = refl
same_unit (Some x) (Some y) e = refl
same_unit None (Some y) e = cc
same_unit (Some x) None e = cc

-- two tests that follow from two others
both_follow : (a b c d : Bool) → (T a → T c) → (T b → T d) → T (a && b) → T (c && d)
both_follow true b true d first second t = second t
both_follow true b false d first second t = absurd (first tt)
both_follow false b c d first second t = absurd t

module _ {K : Type 0} (R : K → K → Ordering) (o : IsTotalOrder R) (same : IsAntisymmetric R) where
  -- keys of nothing
  abbrev keyed : List K → List (K × Unit {0})
  keyed ks = map (λ k. (k, tt)) ks

  keyed-keys : (ks : List K) → map (λ (e : K × Unit {0}). e.0) (keyed ks) ≡ ks
  keyed-keys [] = refl
  keyed-keys (k ∷ ks) = ap (λ t. k ∷ t) (keyed-keys ks)

  found_key : (ks : List K) (q : K) →
      is_some (find R q (keyed ks)) ≡ list_any (eq_by_cmp R q) ks
  found_key ks q = is_some-find R q (keyed ks) ∙ ap (list_any (eq_by_cmp R q)) (keyed-keys ks)

  -- keys in order are fixed by what is among them
  same_keys : (xs ys : List K) → T (is_sorted R (keyed xs)) → T (is_sorted R (keyed ys)) →
      ((q : K) → list_any (eq_by_cmp R q) xs ≡ list_any (eq_by_cmp R q) ys) → xs ≡ ys
  same_keys xs ys s t alike =
      sym (keyed-keys xs)
      ∙ ap (map (λ (e : K × Unit {0}). e.0))
      (same_entries R o same (keyed xs) (keyed ys) s t
      (λ q. same_unit _ _ (found_key xs q ∙ alike q ∙ sym (found_key ys q))))
      ∙ keyed-keys ys

  module _ {X : Type 0} where
    below_kept : (k : K) (es : List (K × X)) → T (below_all R k es) →
        T (below_all R k (keyed (keys_of es)))
    below_kept k [] low = tt
    below_kept k (e ∷ es) low =
        both_follow (is_lt (R k e.0)) (below_all R k es) (is_lt (R k e.0))
        (below_all R k (keyed (keys_of es))) (λ t. t) (below_kept k es) low

    sorted_kept : (es : List (K × X)) → T (is_sorted R es) → T (is_sorted R (keyed (keys_of es)))
    sorted_kept [] s = tt
    sorted_kept (e ∷ es) s =
        both_follow (below_all R e.0 es) (is_sorted R es) (below_all R e.0 (keyed (keys_of es)))
        (is_sorted R (keyed (keys_of es))) (below_kept e.0 es) (sorted_kept es) s

    has_key : (m : FinMap R X) (q : K) →
        list_any (eq_by_cmp R q) (finite.keys m) ≡ is_some (finite.get m q)
    has_key m q = sym (is_some-find R q (finite.entries m)) ∙ ap is_some (sym (get-entries m q))

  -- maps that have the same keys list them alike
  pub same_domain : {X Y : Type 0} (m : FinMap R X) (n : FinMap R Y) →
      ((q : K) → is_some (finite.get m q) ≡ is_some (finite.get n q)) →
      finite.keys m ≡ finite.keys n
  same_domain m n alike =
      same_keys (finite.keys m) (finite.keys n) (sorted_kept (finite.entries m) (entries_sorted m))
      (sorted_kept (finite.entries n) (entries_sorted n))
      (λ q. has_key m q ∙ alike q ∙ sym (has_key n q))

  below_keyed : (k : K) (ks : List K) → AllByRecursion (λ j. R k j ≡ Less) ks →
      T (below_all R k (keyed ks))
  below_keyed k [] low = tt
  below_keyed k (j ∷ ks) low = rw low.0 (below_keyed k ks low.1)

  sorted_keyed : (ks : List K) → IsStrictlySortedBy R ks → T (is_sorted R (keyed ks))
  unfolding IsStrictlySortedBy
  sorted_keyed [] s = tt
  sorted_keyed (k ∷ ks) s =
      both_follow true true (below_all R k (keyed ks)) (is_sorted R (keyed ks))
      (λ t. below_keyed k ks s.0) (λ t. sorted_keyed ks s.1) tt

  below_next : (a b : K) → eq_by_cmp R a b ≡ false → is_lt (R b a) ≡ false → (r : Ordering) →
      R a b ≡ r → r ≡ Less
  below_next a b apart up Less is = refl
  below_next a b apart up Equal is =
      let bad : false ≡ true = sym apart ∙ ap is_eq is in cc
  below_next a b apart up Greater is =
      let bad : false ≡ true = sym up ∙ ap is_lt (o.antisymm b a ∙ ap ordering_reverse is) in cc

  -- the keys of entries, once sorted, are those of the map of these entries
  pub sorted_keys : {X : Type 0} (es : List (K × X)) (ys : List K) → (d : K) →
      IsDistinct (eq_by_cmp R) (keys_of es) → IsPermutation (keys_of es) ys → IsSorted R ys →
      ys ≡ finite.keys (from_entries {R = R} es)
  sorted_keys es ys d apart moved up =
      let distinct = IsDistinct-IsPermutation (eq_by_cmp R) (eq_by_cmp_equiv o).symm (keys_of es) ys
      moved apart in
      let rising = sorted_from_all_adjacent o ys d (λ k l.
      below_next (get_or ys k d) (get_or ys (k + 1) d)
      (apart_from_distinct (eq_by_cmp R) ys k (k + 1) d distinct (omega arith) l)
      (up k d (omega arith) l) _ refl) in
      same_keys ys (finite.keys (from_entries {R = R} es)) (sorted_keyed ys rising)
      (sorted_kept (finite.entries (from_entries {R = R} es)) (entries_sorted (from_entries {R = R} es)))
      (λ q.
      sym (list_any-IsPermutation (eq_by_cmp R q) (keys_of es) ys moved)
      ∙ sym (is_some-find R q es) ∙ ap is_some (sym (get-from_entries o es q))
      ∙ sym (has_key (from_entries {R = R} es) q))
