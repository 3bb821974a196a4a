-- The watched paths of a front: those of its nodes whose deletion some watch waits for, each once.
use Rattle.std.proofs.Common.{◌≡◌, ◌≢◌, ◌∙◌, Bool, true, false, List, [], ◌∷◌, refl, sym, ap, inl, inr}
use Rattle.std.proofs.Math.Bool.{or-true}
use mathlib.Core.Bool.{true≢false}
use lib.Dec.{T}
use Rattle.std.specs.Prelude.{◌⊎◌, ◌||◌, map, if◌then◌else◌}
use Rattle.std.specs.List.{AllByRecursion, filter, list_any}
use Rattle.std.specs.Ordering.{eq_by_cmp, is_lt}
use Rattle.std.specs.Cmp.{tied_itself}
use Rattle.std.specs.declared.cmp.Ordering.TheVariants.{Less, Equal}
use Rattle.std.specs.FinMap as finite
use Rattle.std.specs.FinMap.{is_sorted}
use Rattle.std.specs.FinMap.Entries.{below_all}
use Rattle.std.specs.FinSet.{contains, items, contains-items}
use Rattle.std.proofs.lemmas.List.Folds.{list_any-from_Any}
use Rattle.std.proofs.lemmas.Map.Views.{Contains-from_any}
use Rattle.zpath.specs.Grammar.{path_cmp}
use Rattle.ztree.specs.Tree.{Path, Tree, has_node}
use Rattle.ztree.proofs.Maps.{tied, tied_same}
use Rattle.ztree.proofs.Sorted.{both_parts, is_less, paths_total, same_path}
use Rattle.zcalls.specs.Lists.{Among}
use Rattle.zjute.specs.declared.event.EventKind.TheVariants.{NodeDeleted}
use Rattle.zwatches.specs.declared.watch.Watch.{Watch}
use Rattle.zwatches.specs.Watches.{Watches}
use Rattle.zwatches.specs.Events.{fires, is_awaited}
use Rattle.zwatches.proofs.Order.{watches_total, same_watch}
use Rattle.zfront.specs.Front.{FrontView}
use Rattle.zfront_laws.proofs.watches_lemmas.Standing.{In}

-- ---- what is among them

module _ (test : Path → Bool) where
  pub among_kept : (q : Path) (paths : List Path) → Among q paths → test q ≡ true → Among q (filter test paths)
  among_kept q [] none passes = none
  among_kept q (path ∷ paths) (inl here) passes =
      by (test path) (ap test here ∙ passes)
    where
      by : (b : Bool) → b ≡ true → Among q (if b then path ∷ filter test paths else filter test paths)
      by true is = inl here
      by false is = absurd (true≢false (sym is))
  among_kept q (path ∷ paths) (inr there) passes = by (test path) (among_kept q paths there passes)
    where
      by : (b : Bool) → Among q (filter test paths) → Among q (if b then path ∷ filter test paths else filter test paths)
      by true among = inr among
      by false among = among

  pub kept_among : (q : Path) (paths : List Path) → Among q (filter test paths) → Among q paths
  kept_among q [] none = none
  kept_among q (path ∷ paths) among = by (test path) (kept_among q paths) among
    where
      by : (b : Bool) → (Among q (filter test paths) → Among q paths) → Among q (if b then path ∷ filter test paths else filter test paths)
          → Among q (path ∷ paths)
      by true rest (inl here) = inl here
      by true rest (inr there) = inr (rest there)
      by false rest there = inr (rest there)

pub tied_among : (q : Path) (paths : List Path) → list_any (eq_by_cmp path_cmp q) paths ≡ true → Among q paths
tied_among q [] is = absurd (true≢false (sym is))
tied_among q (path ∷ paths) is = by (eq_by_cmp path_cmp q path) refl is (tied_among q paths)
  where
    by : (b : Bool) → eq_by_cmp path_cmp q path ≡ b → (b || list_any (eq_by_cmp path_cmp q) paths) ≡ true
        → (list_any (eq_by_cmp path_cmp q) paths ≡ true → Among q paths) → Among q (path ∷ paths)
    by true ties holds rest = inl (sym (tied_same paths_total same_path q path ties))
    by false ties holds rest = inr (rest holds)

pub among_tied : (q : Path) (paths : List Path) → Among q paths → list_any (eq_by_cmp path_cmp q) paths ≡ true
among_tied q [] none = absurd none
among_tied q (path ∷ paths) (inl here) =
    ap (λ b. b || list_any (eq_by_cmp path_cmp q) paths) (ap (eq_by_cmp path_cmp q) here ∙ tied paths_total same_path q)
among_tied q (path ∷ paths) (inr there) = ap (λ b. eq_by_cmp path_cmp q path || b) (among_tied q paths there) ∙ or-true (eq_by_cmp path_cmp q path)

pub awaits : (table : Watches) (w : Watch) (q : Path) → contains table w ≡ true → fires NodeDeleted q w ≡ true → is_awaited table NodeDeleted q ≡ true
awaits table w q stands fired =
    let at = Contains-from_any (tied_same watches_total same_watch) w (items table) (sym (contains-items table w) ∙ stands) in
    list_any-from_Any (fires NodeDeleted q) (items table) (at.0, w, at.1, at.2, fired)

-- ---- each is there once

abbrev pub AreDistinct : List Path → Type 0
AreDistinct [] = Unit {0}
AreDistinct (path ∷ paths) = AllByRecursion (λ q. q ≢ path) paths × AreDistinct paths

less_apart : (p q : Path) → path_cmp p q ≡ Less → q ≢ p
less_apart p q less same =
    let bad : Less ≡ Equal = sym less ∙ ap (path_cmp p) same ∙ tied_itself paths_total p in
    absurd (cc bad)

module _ {X : Type 0} where
  above : (p : Path) (es : List (Path × X)) → T (below_all path_cmp p es) → AllByRecursion (λ q. q ≢ p) (map (λ e. e.0) es)
  above p [] below = tt
  above p (e ∷ es) below =
      let parts = both_parts (is_lt (path_cmp p e.0)) (below_all path_cmp p es) below in
      (less_apart p e.0 (is_less (path_cmp p e.0) parts.0), above p es parts.1)

  pub distinct : (es : List (Path × X)) → T (is_sorted path_cmp es) → AreDistinct (map (λ e. e.0) es)
  distinct [] sorted = tt
  distinct (e ∷ es) sorted =
      let parts = both_parts (below_all path_cmp e.0 es) (is_sorted path_cmp es) sorted in
      (above e.0 es parts.0, distinct es parts.1)

-- ---- paths at which a look finds all

-- each was a node, and is there once; and each awaited node of then is among them, or is as it was
pub record Covers (old : FrontView) (t : Tree) (paths : List Path) : Type 0 where
  pub there : (q : Path) → Among q paths → has_node old.tree.nodes q ≡ true
  pub once : AreDistinct paths
  pub all : (w : Watch) (q : Path) → In old.tables w → fires NodeDeleted q w ≡ true → has_node old.tree.nodes q ≡ true
      → Among q paths ⊎ (finite.get t.nodes q ≡ finite.get old.tree.nodes q)
