-- The keys of a map's entries that pass a test: which they are, what holds of them, and that none
-- occurs twice.
use Rattle.std.proofs.Common.{◌≡◌, Bool, true, false, cond, List, [], ◌∷◌, Some, None, refl, sym, ap, ◌∙◌}
use lib.Dec.{T}
use Rattle.std.specs.declared.cmp.Ordering.{Ordering}
use Rattle.std.specs.declared.cmp.Ordering.TheVariants.{Less, Equal, Greater}
use Rattle.std.specs.Ordering.{is_eq, eq_by_cmp}
use Rattle.std.specs.Option.{option_map_or}
use Rattle.std.specs.List.{AllByRecursion, list_any, filter_map, cons_option}
use Rattle.std.specs.Cmp.{IsTotalOrder, tied_itself}
use Rattle.std.specs.FinMap as finite
use Rattle.std.specs.FinMap.{FinMap, IsAntisymmetric, find, is_sorted, entries_sorted, get-entries}
use Rattle.std.specs.FinMap.Entries.{below_all}
use Rattle.ztree.specs.Laws.{NoneTwice}
use Rattle.ztree.proofs.Sorted.{both_parts}
use Rattle.ztree.proofs.Maps.{not_among, found_behind}

-- the keys of the entries that pass a test
abbrev pub keys_where : {K X : Type 0} → (K → X → Bool) → List (K × X) → List K
keys_where test es = filter_map (λ e. cond (test e.0 e.1) (Some e.0) None) es

module _ {K X : Type 0} {R : K → K → Ordering} (o : IsTotalOrder R) (same : IsAntisymmetric R) (test : K → X → Bool) where
  among_first : (q : K) (e : K × X) (es : List (K × X)) → T (below_all R e.0 es) → list_any (eq_by_cmp R q) (keys_where test es) ≡ option_map_or (test q) (find R q es) false → (r : Ordering) → R q e.0 ≡ r → (b : Bool) → test e.0 e.1 ≡ b → list_any (eq_by_cmp R q) (cons_option (cond b (Some e.0) None) (keys_where test es)) ≡ option_map_or (test q) (cond (is_eq r) (Some e.1) (find R q es)) false
  among_first q e es low further Equal is true passes = rw is (sym (ap (λ k. test k e.1) (same q e.0 is) ∙ passes))
  among_first q e es low further Equal is false fails =
      further ∙ ap (λ x. option_map_or (test q) x false) (ap (λ k. find R k es) (same q e.0 is) ∙ not_among o same e.0 es low)
      ∙ sym (ap (λ k. test k e.1) (same q e.0 is) ∙ fails)
  among_first q e es low further Less is true passes = rw is further
  among_first q e es low further Less is false fails = further
  among_first q e es low further Greater is true passes = rw is further
  among_first q e es low further Greater is false fails = further

  among_keys : (q : K) (es : List (K × X)) → T (is_sorted R es) → list_any (eq_by_cmp R q) (keys_where test es) ≡ option_map_or (test q) (find R q es) false
  among_keys q [] s = refl
  among_keys q (e ∷ es) s =
      let parts = both_parts (below_all R e.0 es) (is_sorted R es) s in
      among_first q e es parts.0 (among_keys q es parts.1) (R q e.0) refl (test e.0 e.1) refl

  -- a key is among them where what is found there passes
  pub among_where : (m : FinMap R X) (q : K) → list_any (eq_by_cmp R q) (keys_where test (finite.entries m)) ≡ option_map_or (test q) (finite.get m q) false
  among_where m q = among_keys q (finite.entries m) (entries_sorted m) ∙ ap (λ x. option_map_or (test q) x false) (sym (get-entries m q))

  -- what holds of all keys that pass holds of them
  all_keys : (P : K → Type 0) (es : List (K × X)) → T (is_sorted R es) → ((q : K) (x : X) → find R q es ≡ Some x → test q x ≡ true → P q) → AllByRecursion P (keys_where test es)
  all_keys P [] s all = tt
  all_keys P (e ∷ es) s all =
      let parts = both_parts (below_all R e.0 es) (is_sorted R es) s in
      onto (test e.0 e.1) refl (keys_where test es) (all e.0 e.1 (rw (tied_itself o e.0) refl)) (all_keys P es parts.1 (λ q x found. all q x (found_behind o same e es parts.0 q x found)))
    where
      onto : (b : Bool) → test e.0 e.1 ≡ b → (ks : List K) → (test e.0 e.1 ≡ true → P e.0) → AllByRecursion P ks → AllByRecursion P (cons_option (cond b (Some e.0) None) ks)
      onto true passes ks first rest = (first passes, rest)
      onto false passes ks first rest = rest

  pub all_where : (P : K → Type 0) (m : FinMap R X) → ((q : K) (x : X) → finite.get m q ≡ Some x → test q x ≡ true → P q) → AllByRecursion P (keys_where test (finite.entries m))
  all_where P m all = all_keys P (finite.entries m) (entries_sorted m) (λ q x found. all q x (get-entries m q ∙ found))

  -- none of them occurs twice
  apart_in : (es : List (K × X)) → T (is_sorted R es) → NoneTwice R (keys_where test es)
  apart_in [] s = tt
  apart_in (e ∷ es) s =
      let parts = both_parts (below_all R e.0 es) (is_sorted R es) s in
      onto (test e.0 e.1) (among_keys e.0 es parts.1 ∙ ap (λ x. option_map_or (test e.0) x false) (not_among o same e.0 es parts.0)) (apart_in es parts.1)
    where
      onto : (b : Bool) → list_any (eq_by_cmp R e.0) (keys_where test es) ≡ false → NoneTwice R (keys_where test es) → NoneTwice R (cons_option (cond b (Some e.0) None) (keys_where test es))
      onto true first rest = (first, rest)
      onto false first rest = rest

  pub apart_where : (m : FinMap R X) → NoneTwice R (keys_where test (finite.entries m))
  apart_where m = apart_in (finite.entries m) (entries_sorted m)
