-- The keys of a map's entries that pass a test, from an unordered list of them.
use Rattle.std.proofs.Common.{◌≡◌, Bool, ◌&&◌, ◌||◌, true, false, cond, List, [], ◌∷◌, map, Some, None, refl, sym, ap, subst, ◌∙◌}
use lib.Dec.{T}
use Rattle.std.specs.Prelude.{is_some, IsPermutation, IsSorted}
use Rattle.std.specs.declared.cmp.Ordering.{Ordering}
use Rattle.std.specs.Ordering.{is_lt, eq_by_cmp}
use Rattle.std.specs.Option.{option_map_or}
use Rattle.std.specs.List.{list_any, filter_map, cons_option, AllByRecursion, IsDistinct}
use Rattle.std.specs.Cmp.{IsTotalOrder}
use Rattle.std.specs.Map.{keys_of}
use Rattle.std.specs.FinMap.{FinMap, IsAntisymmetric, get, entries, is_sorted, entries_sorted, from_entries, from_sorted, get-from_entries, get-from_sorted, entries-from_sorted}
use Rattle.std.specs.FinMap.Entries.{below_all, is_some-find}
use Rattle.zslots.proofs.Listing.{sorted_keys, same_domain}
use Rattle.ztree.specs.Laws.{NoneTwice}
use Rattle.ztree.proofs.Among.{keys_where, among_where}
use Rattle.ztree.proofs.Sorted.{both_parts}

both : (a b : Bool) → T a → T b → T (a && b)
both true b s t = t
both false b s t = absurd s

-- the entries that pass
abbrev passing : {K X : Type 0} → (K → X → Bool) → List (K × X) → List (K × X)
passing test es = filter_map (λ e. cond (test e.0 e.1) (Some e) None) es

-- keys of nothing
abbrev keyed : {K : Type 0} → List K → List (K × Unit {0})
keyed ks = map (λ k. (k, tt)) ks

keyed-keys : {K : Type 0} (ks : List K) → keys_of (keyed ks) ≡ ks
keyed-keys [] = refl
keyed-keys (k ∷ ks) = ap (λ t. k ∷ t) (keyed-keys ks)

module _ {K X : Type 0} (R : K → K → Ordering) (o : IsTotalOrder R) (same : IsAntisymmetric R) (test : K → X → Bool) where
  below_passing : (k : K) (es : List (K × X)) → T (below_all R k es) → T (below_all R k (passing test es))
  below_passing k [] low = tt
  below_passing k (e ∷ es) low =
      let parts = both_parts (is_lt (R k e.0)) (below_all R k es) low in
      by (test e.0 e.1) parts.0 (below_passing k es parts.1)
    where
      by : (b : Bool) → T (is_lt (R k e.0)) → T (below_all R k (passing test es)) → T (below_all R k (cons_option (cond b (Some e) None) (passing test es)))
      by true first rest = both _ _ first rest
      by false first rest = rest

  sorted_passing : (es : List (K × X)) → T (is_sorted R es) → T (is_sorted R (passing test es))
  sorted_passing [] s = tt
  sorted_passing (e ∷ es) s =
      let parts = both_parts (below_all R e.0 es) (is_sorted R es) s in
      by (test e.0 e.1) (below_passing e.0 es parts.0) (sorted_passing es parts.1)
    where
      by : (b : Bool) → T (below_all R e.0 (passing test es)) → T (is_sorted R (passing test es)) → T (is_sorted R (cons_option (cond b (Some e) None) (passing test es)))
      by true first rest = both _ _ first rest
      by false first rest = rest

  keys_passing : (es : List (K × X)) → keys_of (passing test es) ≡ keys_where test es
  keys_passing [] = refl
  keys_passing (e ∷ es) = by (test e.0 e.1) (keys_passing es)
    where
      by : (b : Bool) → keys_of (passing test es) ≡ keys_where test es → keys_of (cons_option (cond b (Some e) None) (passing test es)) ≡ cons_option (cond b (Some e.0) None) (keys_where test es)
      by true rest = ap (λ t. e.0 ∷ t) rest
      by false rest = rest

  all_apart : (k : K) (ks : List K) → list_any (eq_by_cmp R k) ks ≡ false → AllByRecursion (λ q. eq_by_cmp R k q ≡ false) ks
  all_apart k [] none = tt
  all_apart k (q ∷ ks) none = by (eq_by_cmp R k q) refl (all_apart k ks) none
    where
      by : (b : Bool) → eq_by_cmp R k q ≡ b → (list_any (eq_by_cmp R k) ks ≡ false → AllByRecursion (λ p. eq_by_cmp R k p ≡ false) ks) → (b || list_any (eq_by_cmp R k) ks) ≡ false → AllByRecursion (λ q. eq_by_cmp R k q ≡ false) (q ∷ ks)
      by true is further e = cc
      by false is further e = (is, further e)

  apart : (ks : List K) → NoneTwice R ks → IsDistinct (eq_by_cmp R) ks
  unfolding IsDistinct
  apart [] once = tt
  apart (k ∷ ks) once = (all_apart k ks once.0, apart ks once.1)

  -- different keys, once sorted, are those of the entries that pass, where each is one that passes
  pub sorted_where : (m : FinMap R X) (xs ys : List K) → K → NoneTwice R xs → IsPermutation xs ys → IsSorted R ys → ((q : K) → list_any (eq_by_cmp R q) xs ≡ option_map_or (test q) (get m q) false) → ys ≡ keys_where test (entries m)
  sorted_where m xs ys d once moved up alike =
      let es = passing test (entries m) in
      let s = sorted_passing (entries m) (entries_sorted m) in
      let names = keyed-keys xs in
      sorted_keys R o same (keyed xs) ys d (subst (IsDistinct (eq_by_cmp R)) (sym names) (apart xs once)) (subst (λ ks. IsPermutation ks ys) (sym names) moved) up
      ∙ same_domain R o same (from_entries {R = R} (keyed xs)) (from_sorted {R = R} es) (λ q.
      ap is_some (get-from_entries o (keyed xs) q) ∙ is_some-find R q (keyed xs) ∙ ap (list_any (eq_by_cmp R q)) names
      ∙ alike q ∙ sym (among_where o same test m q) ∙ ap (list_any (eq_by_cmp R q)) (sym (keys_passing (entries m)))
      ∙ sym (is_some-find R q es) ∙ ap is_some (sym (get-from_sorted R es q s)))
      ∙ ap keys_of (entries-from_sorted R es s) ∙ keys_passing (entries m)
