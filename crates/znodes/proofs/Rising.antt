-- Names in order: such a list is fixed by its members, and the children of a path are one.
use Rattle.std.proofs.Common.{◌≡◌, ◌+◌, Bool, ◌&&◌, true, false, List, [], ◌∷◌, ◌++◌, map, length, get_or, Option, Some, None, refl, sym, ap, subst, ◌∙◌, arith}
use lib.Dec.{T}
use Rattle.std.specs.Prelude.{is_some, IsPermutation, IsSorted}
use Rattle.std.specs.declared.cmp.Ordering.{Ordering}
use Rattle.std.specs.declared.cmp.Ordering.TheVariants.{Less, Equal, Greater}
use Rattle.std.specs.Ordering.{is_lt, is_eq, eq_by_cmp, ordering_then, ordering_reverse}
use Rattle.std.specs.List.{list_any, filter_map, cons_option, AllByRecursion, IsDistinct}
use Rattle.std.specs.List.Sorted.{IsStrictlySortedBy}
use Rattle.std.specs.Cmp.{tied_itself}
use Rattle.std.specs.Cmp.Lexicographic.{nat_list_cmp_total, nat_list_eq_equiv, texts_ties}
use Rattle.std.specs.FinMap as finite
use Rattle.std.specs.FinMap.{find, is_sorted, entries_sorted, slice_cmp-IsAntisymmetric, nat_cmp-IsAntisymmetric}
use Rattle.std.specs.FinMap.Entries.{below_all, same_entries, is_some-find}
use Rattle.std.specs.Str.{bytes_eq}
use Rattle.std.proofs.lemmas.Map.Keys.{IsDistinct-from_sorted, IsDistinct-IsPermutation, sorted_from_all_adjacent, apart_from_distinct}
use Rattle.std.proofs.lemmas.Map.Made.{length-from_keys, distinct_count-from_IsDistinct}
use Rattle.std.proofs.lemmas.List.Sorted.{list_any-IsPermutation}
use Rattle.zpath.specs.Grammar.{name_cmp, path_cmp}
use Rattle.ztree.specs.Tree.{Name, Path, Nodes, child_name, children}
use Rattle.ztree.specs.Laws.{has_name}
use Rattle.ztree.proofs.Sorted.{both_parts, is_less}
use Rattle.ztree.proofs.Listed.{child_is_appended}

-- each name is below those after it
abbrev pub AreRising : List Name → Type 0
AreRising = IsStrictlySortedBy name_cmp

-- no name occurs twice
abbrev pub AreDistinct : List Name → Type 0
AreDistinct = IsDistinct bytes_eq

alone : (r : Ordering) → ordering_then r Equal ≡ r
alone Less = refl
alone Equal = refl
alone Greater = refl

-- paths that differ in the last name alone are ordered as it is
appended_cmp : (p : Path) (n m : Name) → path_cmp (p ++ n ∷ []) (p ++ m ∷ []) ≡ name_cmp n m
appended_cmp [] n m = alone (name_cmp n m)
appended_cmp (a ∷ p) n m = rw (tied_itself nat_list_cmp_total a) (appended_cmp p n m)

-- the names of the children among these entries
abbrev names_in : {X : Type 0} → Path → List (Path × X) → List Name
names_in p es = filter_map (child_name p) (map (λ e. e.0) es)

module _ {X : Type 0} (p : Path) where
  above_first : (n : Name) (e : Path × X) (es : List (Path × X)) → path_cmp (p ++ n ∷ []) e.0 ≡ Less → AllByRecursion (λ m. name_cmp n m ≡ Less) (names_in p es) → (o : Option Name) → child_name p e.0 ≡ o → AllByRecursion (λ m. name_cmp n m ≡ Less) (cons_option o (names_in p es))
  above_first n e es low further None is = further
  above_first n e es low further (Some m) is = (sym (appended_cmp p n m) ∙ ap (path_cmp (p ++ n ∷ [])) (sym (child_is_appended p e.0 m is)) ∙ low, further)

  above_all : (n : Name) (es : List (Path × X)) → T (below_all path_cmp (p ++ n ∷ []) es) → AllByRecursion (λ m. name_cmp n m ≡ Less) (names_in p es)
  above_all n [] low = tt
  above_all n (e ∷ es) low =
      let parts = both_parts (is_lt (path_cmp (p ++ n ∷ []) e.0)) (below_all path_cmp (p ++ n ∷ []) es) low in
      above_first n e es (is_less _ parts.0) (above_all n es parts.1) (child_name p e.0) refl

  rise_first : (e : Path × X) (es : List (Path × X)) → T (below_all path_cmp e.0 es) → AreRising (names_in p es) → (o : Option Name) → child_name p e.0 ≡ o → AreRising (cons_option o (names_in p es))
  unfolding IsStrictlySortedBy
  rise_first e es low further None is = further
  rise_first e es low further (Some n) is = (above_all n es (subst (λ q. T (below_all path_cmp q es)) (child_is_appended p e.0 n is) low), further)

  rise_in : (es : List (Path × X)) → T (is_sorted path_cmp es) → AreRising (names_in p es)
  unfolding IsStrictlySortedBy
  rise_in [] s = tt
  rise_in (e ∷ es) s =
      let parts = both_parts (below_all path_cmp e.0 es) (is_sorted path_cmp es) s in
      rise_first e es parts.0 (rise_in es parts.1) (child_name p e.0) refl

pub children_rise : (nodes : Nodes) (p : Path) → AreRising (children nodes p)
children_rise nodes p = rise_in p (finite.entries nodes) (entries_sorted nodes)

-- names as keys of nothing
abbrev keyed : List Name → List (Name × Unit {0})
keyed names = map (λ n. (n, tt)) names

keyed-keys : (names : List Name) → map (λ (e : Name × Unit {0}). e.0) (keyed names) ≡ names
keyed-keys [] = refl
keyed-keys (n ∷ names) = ap (λ t. n ∷ t) (keyed-keys names)

both : (a b : Bool) → T a → T b → T (a && b)
both true b s t = t
both false b s t = absurd s

below_keyed : (n : Name) (names : List Name) → AllByRecursion (λ m. name_cmp n m ≡ Less) names → T (below_all name_cmp n (keyed names))
below_keyed n [] low = tt
below_keyed n (m ∷ names) low = rw low.0 (below_keyed n names low.1)

sorted_keyed : (names : List Name) → AreRising names → T (is_sorted name_cmp (keyed names))
unfolding IsStrictlySortedBy
sorted_keyed [] s = tt
sorted_keyed (n ∷ names) s = both _ _ (below_keyed n names s.0) (sorted_keyed names s.1)

same_unit : (o p : Option (Unit {0})) → is_some o ≡ is_some p → o ≡ p
same_unit None None e = refl
same_unit (Some x) (Some y) e = refl
same_unit None (Some y) e = cc
same_unit (Some x) None e = cc

found_key : (names : List Name) (q : Name) → is_some (find name_cmp q (keyed names)) ≡ has_name names q
found_key names q =
    is_some-find name_cmp q (keyed names) ∙ ap (list_any (eq_by_cmp name_cmp q)) (keyed-keys names)
    ∙ sym (λ i. list_any (λ m. texts_ties q m i) names)

-- names in order are fixed by their members
pub same_rising : (xs ys : List Name) → AreRising xs → AreRising ys → ((q : Name) → has_name xs q ≡ has_name ys q) → xs ≡ ys
same_rising xs ys s t alike =
    let same = same_entries name_cmp nat_list_cmp_total (slice_cmp-IsAntisymmetric nat_cmp-IsAntisymmetric) (keyed xs) (keyed ys) (sorted_keyed xs s) (sorted_keyed ys t) (λ q. same_unit _ _ (found_key xs q ∙ alike q ∙ sym (found_key ys q))) in
    sym (keyed-keys xs) ∙ ap (map (λ (e : Name × Unit {0}). e.0)) same ∙ keyed-keys ys

below_next : (a b : Name) → bytes_eq a b ≡ false → is_lt (name_cmp b a) ≡ false → (r : Ordering) → name_cmp a b ≡ r → r ≡ Less
below_next a b apart up Less is = refl
below_next a b apart up Equal is = let bad : false ≡ true = sym apart ∙ texts_ties a b ∙ ap is_eq is in cc
below_next a b apart up Greater is = let bad : false ≡ true = sym up ∙ ap is_lt (nat_list_cmp_total.antisymm b a ∙ ap ordering_reverse is) in cc

-- names that differ, once sorted, rise
pub sorted_rise : (xs ys : List Name) → AreDistinct xs → IsPermutation xs ys → IsSorted name_cmp ys → AreRising ys
sorted_rise xs ys apart moved up =
    let distinct = IsDistinct-IsPermutation bytes_eq nat_list_eq_equiv.symm xs ys moved apart in
    sorted_from_all_adjacent nat_list_cmp_total ys [] (λ k l. below_next (get_or ys k []) (get_or ys (k + 1) []) (apart_from_distinct bytes_eq ys k (k + 1) [] distinct (omega arith) l) (up k [] (omega arith) l) _ refl)

-- names that differ, once sorted, are the names in order with the same members
pub sorted_same : (xs ys zs : List Name) → AreDistinct xs → IsPermutation xs ys → IsSorted name_cmp ys → AreRising zs → ((q : Name) → has_name xs q ≡ has_name zs q) → ys ≡ zs
sorted_same xs ys zs apart moved up rise alike = same_rising ys zs (sorted_rise xs ys apart moved up) rise (λ q. sym (list_any-IsPermutation (bytes_eq q) xs ys moved) ∙ alike q)

rising_apart : (names : List Name) → AreRising names → AreDistinct names
rising_apart names rise = subst (λ (e : Name → Name → Bool). IsDistinct e names) (sym (λ i x y. texts_ties x y i)) (IsDistinct-from_sorted name_cmp names rise)

-- names that differ are as many as the names in order with the same members
pub same_length : (xs zs : List Name) → AreDistinct xs → AreRising zs → ((q : Name) → has_name xs q ≡ has_name zs q) → length xs ≡ length zs
same_length xs zs apart rise alike = length-from_keys nat_list_eq_equiv xs zs apart alike ∙ distinct_count-from_IsDistinct nat_list_eq_equiv zs (rising_apart zs rise)
