-- Each watch has its path under its connection: what keeps it so, and what follows once the paths of a
-- connection are taken.
use Rattle.std.proofs.Common.{◌≡◌, ◌⊎◌, inl, inr, ℕ, ◌<◌, Bool, true, false, eqb, not, ◌&&◌, ◌||◌, List, [], ◌∷◌, length, arith, refl, sym, ap, ◌∙◌}
use mathlib.Core.Bool.{true≢false}
use Rattle.std.specs.Prelude.{Result, Ok, Err, OnOk, is_err}
use Rattle.std.specs.Ordering.{eq_by_cmp, nat_cmp}
use Rattle.std.specs.Cmp.{Equal-is, eq_by_cmp_equiv, nat_cmp_total}
use Rattle.std.specs.List.{list_any}
use Rattle.std.specs.FinSet.{contains, empty, insert, items, len, remove, retain, contains-empty, contains-insert, contains-items, contains-remove, len-empty, same_set}
use Rattle.std.specs.BTreeSet.{BTreeSet}
use Rattle.std.proofs.lemmas.Bool.{eqb-true}
use Rattle.std.proofs.lemmas.List.Folds.{list_any-from_Any}
use Rattle.std.proofs.lemmas.Map.Views.{Contains-from_any}
use Rattle.zpath.specs.Grammar.{path_cmp}
use Rattle.zjute.specs.declared.watch_type.WatchType.TheVariants as type
use Rattle.zwatches.specs.declared.kind.Kind.{Kind}
use Rattle.zwatches.specs.declared.watch.Watch.{Watch}
use Rattle.zwatches.specs.Watches.{Path, Watches, share, watch, watch_cmp}
use Rattle.zwatches.specs.Events.{without}
use Rattle.zwatches.specs.Removal.{has_meant, is_meant, without_meant}
use Rattle.zwatches.specs.support.Nested.{AreFound, has_path}
use Rattle.zwatches.proofs.Order.{paths_total, watches_total, same_watch}
use Rattle.zwatches.proofs.Removing.{number_is}
use Rattle.zwatches.proofs.Worked.{both_true, contains-kept}

abbrev Rows : Type 0
Rows = List (ℕ × BTreeSet Path)

watch_same : (q w : Watch) → eq_by_cmp watch_cmp q w ≡ true → q ≡ w
watch_same q w e = same_watch q w ((Equal-is (watch_cmp q w)).0 e)

either : (a b : Bool) → (a || b) ≡ true → (a ≡ true) ⊎ ((a ≡ false) × (b ≡ true))
either true b e = inl refl
either false b e = inr (refl, e)

-- no watches are found
pub none_found : (rows : Rows) → AreFound rows empty
none_found rows w there = absurd (true≢false (sym there ∙ contains-empty watch_cmp w))

-- fewer watches
pub fewer_found : (rows : Rows) (table now : Watches) → ((w : Watch) → contains now w ≡ true → contains table w ≡ true) → AreFound rows table → AreFound rows now
fewer_found rows table now fewer are w there = are w (fewer w there)

pub removed_found : (rows : Rows) (table : Watches) (w : Watch) → AreFound rows table → AreFound rows (remove table w)
removed_found rows table w = fewer_found rows table (remove table w)
    (λ q there. (both_true (not (eq_by_cmp watch_cmp q w)) (contains table q) (sym (contains-remove watches_total table w q) ∙ there)).1)

pub kept_found : (rows : Rows) (table : Watches) (test : Watch → Bool) → AreFound rows table → AreFound rows (retain table test)
kept_found rows table test = fewer_found rows table (retain table test)
    (λ q there. (both_true (contains table q) (test q) (sym (contains-kept table test q) ∙ there)).0)

-- a path more
pub path_found : (rows new : Rows) (table : Watches) (connection : ℕ) (path : Path)
    → ((c : ℕ) (q : Path) → has_path new c q ≡ ((eq_by_cmp nat_cmp c connection && eq_by_cmp path_cmp q path) || has_path rows c q))
    → AreFound rows table → AreFound new table
path_found rows new table connection path more are w there =
    more w.connection w.path ∙ ap (λ b. (eq_by_cmp nat_cmp w.connection connection && eq_by_cmp path_cmp w.path path) || b) (are w there)
    ∙ or_true (eq_by_cmp nat_cmp w.connection connection && eq_by_cmp path_cmp w.path path)
  where
    or_true : (b : Bool) → (b || true) ≡ true
    or_true true = refl
    or_true false = refl

-- and a watch there
pub watch_found : (rows new : Rows) (table : Watches) (kind : Kind) (connection : ℕ) (path : Path)
    → ((c : ℕ) (q : Path) → has_path new c q ≡ ((eq_by_cmp nat_cmp c connection && eq_by_cmp path_cmp q path) || has_path rows c q))
    → AreFound rows table → AreFound new (insert table (watch path kind connection))
watch_found rows new table kind connection path more are w there =
    by (either (eq_by_cmp watch_cmp w (watch path kind connection)) (contains table w) (sym (contains-insert watches_total table (watch path kind connection) w) ∙ there))
  where
    by : (eq_by_cmp watch_cmp w (watch path kind connection) ≡ true) ⊎ ((eq_by_cmp watch_cmp w (watch path kind connection) ≡ false) × (contains table w ≡ true))
        → has_path new w.connection w.path ≡ true
    by (inl same) =
        let is = watch_same w (watch path kind connection) same in
        more w.connection w.path
        ∙ (λ i. (eq_by_cmp nat_cmp (is i).connection connection && eq_by_cmp path_cmp (is i).path path) || has_path rows w.connection w.path)
        ∙ ap (λ b. b || has_path rows w.connection w.path)
        (λ i. (eq_by_cmp_equiv nat_cmp_total).refl connection i && (eq_by_cmp_equiv paths_total).refl path i)
    by (inr other) = path_found rows new table connection path more are w other.1

-- a path less, where its connection has no watch
pub path_unneeded : (rows new : Rows) (table : Watches) (connection : ℕ) (path : Path) → has_meant table connection type.Any path ≡ false
    → ((c : ℕ) (q : Path) → has_path new c q ≡ (not (eq_by_cmp nat_cmp c connection && eq_by_cmp path_cmp q path) && has_path rows c q))
    → AreFound rows table → AreFound new table
path_unneeded rows new table connection path none less are w there =
    less w.connection w.path
    ∙ (λ i. not (by (eq_by_cmp nat_cmp w.connection connection && eq_by_cmp path_cmp w.path path) refl i) && are w there i)
  where
    by : (b : Bool) → (eq_by_cmp nat_cmp w.connection connection && eq_by_cmp path_cmp w.path path) ≡ b → (eq_by_cmp nat_cmp w.connection connection && eq_by_cmp path_cmp w.path path) ≡ false
    by true e =
        let own = both_true (eq_by_cmp nat_cmp w.connection connection) (eq_by_cmp path_cmp w.path path) e in
        let meant : is_meant connection type.Any path w ≡ true = (λ i. (sym (number_is w.connection connection) ∙ own.0) i && (own.1 i && true)) in
        let at = Contains-from_any watch_same w (items table) (sym (contains-items table w) ∙ there) in
        absurd (true≢false (sym (list_any-from_Any (is_meant connection type.Any path) (items table) (at.0, w, at.1, at.2, meant)) ∙ none))
    by false e = e

-- ---- the paths of a connection are taken, one after the other

-- the watches of a connection are at the paths that are left; others are as they were
pub record IsWithout (table : Watches) (connection : ℕ) (left : List Path) (now : Watches) : Type 0 where
  pub own : (w : Watch) → contains now w ≡ true → eqb w.connection connection ≡ true → list_any (eq_by_cmp path_cmp w.path) left ≡ true
  pub others : (w : Watch) → eqb w.connection connection ≡ false → contains now w ≡ contains table w

pub goes_without : (table now new : Watches) (connection : ℕ) (path : Path) (before left : List Path) → before ≡ path ∷ left
    → IsWithout table connection before now → new ≡ without_meant now connection type.Any path → IsWithout table connection left new
goes_without table now new connection path before left is so_far gone = record {
  own = λ w there own.
      let both = both_true (contains now w) (not (is_meant connection type.Any path w)) (sym (contains-kept now (λ v. not (is_meant connection type.Any path v)) w) ∙ sym (ap (λ (t : Watches). contains t w) gone) ∙ there) in
      by w own both.1 (either (eq_by_cmp path_cmp w.path path) (list_any (eq_by_cmp path_cmp w.path) left)
      (sym (ap (list_any (eq_by_cmp path_cmp w.path)) is) ∙ so_far.own w both.0 own));
  others = λ w other.
      ap (λ (t : Watches). contains t w) gone
      ∙ contains-kept now (λ v. not (is_meant connection type.Any path v)) w
      ∙ ap (λ b. contains now w && not (b && (eq_by_cmp path_cmp w.path path && true))) other
      ∙ and_true (contains now w)
      ∙ so_far.others w other;
}
  where
    and_true : (b : Bool) → (b && true) ≡ b
    and_true true = refl
    and_true false = refl

    by : (w : Watch) → eqb w.connection connection ≡ true → not (is_meant connection type.Any path w) ≡ true
        → (eq_by_cmp path_cmp w.path path ≡ true) ⊎ ((eq_by_cmp path_cmp w.path path ≡ false) × (list_any (eq_by_cmp path_cmp w.path) left ≡ true))
        → list_any (eq_by_cmp path_cmp w.path) left ≡ true
    by w own unmeant (inl at) = absurd (true≢false (sym unmeant ∙ ap not (λ i. own i && (at i && true))))
    by w own unmeant (inr other) = other.1

pub ends_without : (table now : Watches) (connection : ℕ) (left : List Path) → left ≡ [] → IsWithout table connection left now → now ≡ without table connection
ends_without table now connection left none are = same_set watches_total same_watch _ _ (λ q.
    by q (eqb q.connection connection) refl ∙ sym (contains-kept table (λ w. not (eqb w.connection connection)) q))
  where
    no : (a : Bool) → (a && false) ≡ false
    no true = refl
    no false = refl

    gone : (q : Watch) → eqb q.connection connection ≡ true → (b : Bool) → contains now q ≡ b → contains now q ≡ false
    gone q own true there = absurd (true≢false (sym (are.own q there own) ∙ ap (list_any (eq_by_cmp path_cmp q.path)) none))
    gone q own false there = there

    by : (q : Watch) (b : Bool) → eqb q.connection connection ≡ b → contains now q ≡ (contains table q && not (eqb q.connection connection))
    by q true own = gone q own (contains now q) refl ∙ sym (ap (λ b. contains table q && not b) own ∙ no (contains table q))
    by q false other = are.others q other ∙ sym (ap (λ b. contains table q && not b) other ∙ yes (contains table q))
      where
        yes : (a : Bool) → (a && true) ≡ a
        yes true = refl
        yes false = refl

-- none of the connection's watches are left
pub share-without : (table : Watches) (connection : ℕ) → share (without table connection) connection ≡ 0
share-without table connection = ap len none ∙ len-empty watch_cmp
  where
    never : (a b : Bool) → ((a && not b) && b) ≡ false
    never true true = refl
    never true false = refl
    never false b = refl

    none : retain (without table connection) (λ w. eqb w.connection connection) ≡ empty
    none = same_set watches_total same_watch _ _ (λ q.
        contains-kept (without table connection) (λ w. eqb w.connection connection) q
        ∙ ap (λ b. b && eqb q.connection connection) (contains-kept table (λ w. not (eqb w.connection connection)) q)
        ∙ never (contains table q) (eqb q.connection connection)
        ∙ sym (contains-empty watch_cmp q))

-- a connection without paths has no watches
pub all_others : (rows : Rows) (table : Watches) (connection : ℕ) → ((q : Path) → has_path rows connection q ≡ false) → AreFound rows table → table ≡ without table connection
all_others rows table connection none are = ends_without table table connection [] refl (record {
  own = λ w there own. absurd (true≢false (sym (are w there) ∙ ap (λ (c : ℕ). has_path rows c w.path) (eqb-true w.connection connection own) ∙ none w.path));
  others = λ w other. refl;
})

-- no path is left
pub no_paths : (paths : List Path) → (0 < length paths → ⊥) → paths ≡ []
no_paths [] none = refl
no_paths (path ∷ paths) none = absurd (none (omega arith))

-- what holds once something is done
pub when_ok : {A E P : Type 0} (r : Result A E) → OnOk r P → is_err r ≡ false → P
when_ok (Ok x) p fine = p
when_ok (Err e) p fine = absurd (true≢false fine)
