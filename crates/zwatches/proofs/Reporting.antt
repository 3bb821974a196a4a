-- Whom the watches at several positions notify.
use Rattle.std.proofs.Common.{◌≡◌, ℕ, Bool, true, false, cond, eqb, ◌&&◌, ◌||◌, List, [], ◌∷◌, ◌++◌, map, refl, sym, ap, subst, ◌∙◌}
use Rattle.std.specs.declared.cmp.Ordering.{Ordering}
use Rattle.std.specs.declared.cmp.Ordering.TheVariants.{Less, Equal, Greater}
use Rattle.std.specs.Ordering.{eq_by_cmp, is_eq, nat_cmp, ordering_then}
use Rattle.std.specs.Cmp.{Equal-is, both_ways, eq_by_cmp_equiv}
use Rattle.std.specs.List.{filter, list_any, dedup}
use Rattle.std.specs.List.Sorted.{IsSorted, IsPermutation}
use Rattle.std.specs.FinSet.{FinSet, contains, items, from_list, retain, contains-from_list, contains-items, same_set}
use Rattle.std.specs.FinMap.{nat_cmp-IsAntisymmetric}
use Rattle.std.proofs.lemmas.Cmp.{nat_cmp_total}
use Rattle.std.proofs.lemmas.List.Folds.{list_any-append}
use Rattle.std.proofs.lemmas.List.Kept.{Contains-dedup_nat, Contains-from_dedup}
use Rattle.std.proofs.lemmas.List.Sorted.{list_any-IsPermutation}
use Rattle.std.proofs.lemmas.Map.Keys.{IsStrictlyIncreasing-dedup, sorted_from_strictly_increasing}
use Rattle.std.proofs.lemmas.Map.Views.{Contains-from_any, list_any-from_Contains}
use Rattle.zjute.specs.declared.event.EventKind.{EventKind}
use Rattle.zjute.specs.declared.event.EventKind.TheVariants as event
use Rattle.zjute.specs.declared.watch_type.WatchType.{WatchType}
use Rattle.zwatches.specs.declared.kind.Kind.{Kind}
use Rattle.zwatches.specs.declared.kind.Kind.TheVariants.{Data, Missing, Children, EachData, EachChildren, Recursive}
use Rattle.zwatches.specs.Watches.{Place}
use Rattle.zwatches.specs.declared.watch.Watch.{Watch}
use Rattle.zwatches.specs.Watches.{Path, Watches, fires_once, place, place_cmp, place_of, watch, watch_cmp}
use Rattle.zwatches.specs.Events.{is_at, is_awaited, ends, fired_at, fires, from_root, reported, Lists}
use Rattle.zwatches.specs.Removal.{has_meant, is_meant}
use Rattle.zwatches.specs.support.Groups.{AddsWaiting, reported_by, found_by, once_at, waits_at}
use Rattle.zwatches.proofs.Kept.{of_items}
use Rattle.zwatches.proofs.Order.{places_total, watches_total, same_place, same_watch}
use Rattle.zwatches.proofs.Sets.{from_list-filter, any-items, same_list}

-- ---- tests that answer the same

pub filter_same : {X : Type 0} (p q : X → Bool) → ((x : X) → p x ≡ q x) → (xs : List X) → filter p xs ≡ filter q xs
filter_same p q same [] = refl
filter_same p q same (x ∷ xs) = rw (same x, filter_same p q same xs) refl

-- ---- the connections of the others

and_true : (a : Bool) → a ≡ (a && true)
and_true true = refl
and_true false = refl

and_false : (a : Bool) → (a && false) ≡ false
and_false true = refl
and_false false = refl

pub any_map : {X Y : Type 0} (p : Y → Bool) (f : X → Y) (xs : List X) → list_any p (map f xs) ≡ list_any (λ x. p (f x)) xs
any_map p f [] = refl
any_map p f (x ∷ xs) = ap (λ b. p (f x) || b) (any_map p f xs)

pub any_same : {X : Type 0} (p q : X → Bool) → ((x : X) → p x ≡ q x) → (xs : List X) → list_any p xs ≡ list_any q xs
any_same p q same [] = refl
any_same p q same (x ∷ xs) = (λ i. same x i || any_same p q same xs i)

any_step : {X : Type 0} (p : X → Bool) (b : Bool) (x : X) (ys : List X) (found : Bool) → list_any p ys ≡ found → list_any p (cond b (x ∷ ys) ys) ≡ ((p x && b) || found)
any_step p true x ys found e = rw e (ap (λ b. b || found) (and_true (p x)))
any_step p false x ys found e = e ∙ ap (λ b. b || found) (sym (and_false (p x)))

pub any_filter : {X : Type 0} (p q : X → Bool) (xs : List X) → list_any p (filter q xs) ≡ list_any (λ x. p x && q x) xs
any_filter p q [] = refl
any_filter p q (x ∷ xs) = any_step p (q x) x (filter q xs) (list_any (λ x. p x && q x) xs) (any_filter p q xs)

any_none : {X : Type 0} (p : X → Bool) (xs : List X) → list_any (λ x. p x && false) xs ≡ false
any_none p [] = refl
any_none p (x ∷ xs) = rw (and_false (p x)) (any_none p xs)

either_step : (p q r : Bool) (a b c : Bool) → (a || b) ≡ c → (((p && q) || a) || ((p && r) || b)) ≡ ((p && (q || r)) || c)
either_step true true r a b c e = refl
either_step true false true true b c e = refl
either_step true false true false b c e = refl
either_step true false false a b c e = e
either_step false q r a b c e = e

any_either : {X : Type 0} (p q r : X → Bool) (xs : List X) → (list_any (λ x. p x && q x) xs || list_any (λ x. p x && r x) xs) ≡ list_any (λ x. p x && (q x || r x)) xs
any_either p q r [] = refl
any_either p q r (x ∷ xs) = either_step (p x) (q x) (r x) _ _ _ (any_either p q r xs)

reported_members : (rows : List Watch) (places : List Place) (p : ℕ → Bool) → list_any p (reported_by rows places) ≡ list_any (λ w. p w.connection && list_any (λ at. is_at at w) places) rows
reported_members rows [] p = sym (any_none (λ (w : Watch). p w.connection) rows)
reported_members rows (at ∷ places) p =
    list_any-append p (map (λ w. w.connection) (filter (is_at at) rows)) (reported_by rows places)
    ∙ rw (any_map p (λ (w : Watch). w.connection) (filter (is_at at) rows), any_filter (λ (w : Watch). p w.connection) (is_at at) rows, reported_members rows places p)
    (any_either (λ (w : Watch). p w.connection) (is_at at) (λ w. list_any (λ at. is_at at w) places) rows)

-- the items of a table that satisfy a test
pub any_retained : (rows : List Watch) (test p : Watch → Bool) → list_any p (items (retain (from_list {R = watch_cmp} rows) test)) ≡ list_any (λ w. p w && test w) rows
any_retained rows test p =
    ap (λ set. list_any p (items set)) (sym (from_list-filter watches_total same_watch test rows))
    ∙ any-items watches_total same_watch p (filter test rows)
    ∙ any_filter p test rows

-- the connections that the rows notify are those to be notified
pub reported_is : (rows : List Watch) (event : EventKind) (path : Path)
    → from_list {R = nat_cmp} (reported_by rows (fired_at event path)) ≡ reported (from_list {R = watch_cmp} rows) event path
reported_is rows event path =
    same_list nat_cmp_total nat_cmp-IsAntisymmetric _ _ (λ q.
    reported_members rows (fired_at event path) (eq_by_cmp nat_cmp q)
    ∙ sym (any_map (eq_by_cmp nat_cmp q) (λ (w : Watch). w.connection) (items (retain (from_list rows) (fires event path)))
    ∙ any_retained rows (fires event path) (λ (w : Watch). eq_by_cmp nat_cmp q w.connection)))

-- ---- the rows that an event ends

module _ (path : Path) (kind : Kind) (w : Watch) where
  kind_at : is_at (place path kind) w ≡ true → w.kind ≡ kind
  kind_at e = ap (λ p. p.kind) (same_place (place_of w) (place path kind) ((Equal-is _).0 e))

  at_once : fires_once kind ≡ true → (is_at (place path kind) w && fires_once w.kind) ≡ is_at (place path kind) w
  at_once once = by (is_at (place path kind) w) refl
    where
      by : (b : Bool) → is_at (place path kind) w ≡ b → (b && fires_once w.kind) ≡ b
      by true e = ap fires_once (kind_at e) ∙ once
      by false e = refl

  at_each : fires_once kind ≡ false → (is_at (place path kind) w && fires_once w.kind) ≡ false
  at_each each = by (is_at (place path kind) w) refl
    where
      by : (b : Bool) → is_at (place path kind) w ≡ b → (b && fires_once w.kind) ≡ false
      by true e = ap fires_once (kind_at e) ∙ each
      by false e = refl

or_and : (a b c : Bool) → ((a || b) && c) ≡ ((a && c) || (b && c))
or_and true true true = refl
or_and true true false = refl
or_and true false true = refl
or_and true false false = refl
or_and false b c = refl

pub any_and : {X : Type 0} (p : X → Bool) (c : Bool) (xs : List X) → (list_any p xs && c) ≡ list_any (λ x. p x && c) xs
any_and p c [] = refl
any_and p c (x ∷ xs) = or_and (p x) (list_any p xs) c ∙ ap (λ b. (p x && c) || b) (any_and p c xs)

above_each : (w : Watch) (paths : List Path) → list_any (λ at. is_at at w && fires_once w.kind) (map (λ p. place p Recursive) paths) ≡ false
above_each w [] = refl
above_each w (path ∷ paths) = rw (at_each path Recursive w refl, above_each w paths) refl

pub ends_is : (event : EventKind) (path : Path) (w : Watch) → ends event path w ≡ list_any (λ at. is_at at w) (once_at event path)
ends_is e path w = any_and (λ at. is_at at w) (fires_once w.kind) (fired_at e path) ∙ by e
  where
    by : (e : EventKind) → list_any (λ at. is_at at w && fires_once w.kind) (fired_at e path) ≡ list_any (λ at. is_at at w) (once_at e path)
    by event.None = refl
    by event.NodeCreated = rw (at_once path Data w refl, at_once path Missing w refl, at_each path EachData w refl, above_each w (from_root path)) refl
    by event.NodeDeleted =
        rw (at_once path Data w refl, at_once path Children w refl, at_each path EachData w refl, at_each path EachChildren w refl, above_each w (from_root path)) refl
    by event.NodeDataChanged = rw (at_once path Data w refl, at_each path EachData w refl, above_each w (from_root path)) refl
    by event.NodeChildrenChanged = rw (at_once path Children w refl, at_each path EachChildren w refl) refl
    by event.DataWatchRemoved = refl
    by event.ChildWatchRemoved = refl
    by event.PersistentWatchRemoved = refl

pub meant_rows : (rows : List Watch) (connection : ℕ) (type : WatchType) (path : Path) → list_any (is_meant connection type path) rows ≡ has_meant (from_list {R = watch_cmp} rows) connection type path
meant_rows rows connection type path = sym (any-items watches_total same_watch (is_meant connection type path) rows)

-- ---- rows at one of several positions

pub any_or : {X : Type 0} (p q : X → Bool) (xs : List X) → list_any (λ x. p x || q x) xs ≡ (list_any p xs || list_any q xs)
any_or p q [] = refl
any_or p q (x ∷ xs) = rw (any_or p q xs) (swapped (p x) (q x) (list_any p xs) (list_any q xs))
  where
    swapped : (a b c d : Bool) → ((a || b) || (c || d)) ≡ ((a || c) || (b || d))
    swapped true b c d = refl
    swapped false true true d = refl
    swapped false true false d = refl
    swapped false false c d = refl

any_false : {X : Type 0} (xs : List X) → list_any (λ _. false) xs ≡ false
any_false [] = refl
any_false (x ∷ xs) = any_false xs

found_is : (rows : List Watch) (places : List Place) → found_by rows places ≡ list_any (λ w. list_any (λ at. is_at at w) places) rows
found_is rows [] = sym (any_false rows)
found_is rows (at ∷ places) =
    ap (λ b. list_any (is_at at) rows || b) (found_is rows places)
    ∙ sym (any_or (is_at at) (λ w. list_any (λ at. is_at at w) places) rows)

pub awaited_is : (rows : List Watch) (event : EventKind) (path : Path) → found_by rows (fired_at event path) ≡ is_awaited (from_list {R = watch_cmp} rows) event path
awaited_is rows event path = found_is rows (fired_at event path) ∙ sym (any-items watches_total same_watch (fires event path) rows)

-- ---- who waits at one of several positions

-- a connection's watch at a position is one of that position
waiting_one : (at : Place) (q : ℕ) (w : Watch) → eq_by_cmp watch_cmp (watch at.path at.kind q) w ≡ (eq_by_cmp nat_cmp q w.connection && is_at at w)
waiting_one at q w =
    two (place_cmp at (place_of w)) (nat_cmp q w.connection)
    ∙ (λ i. eq_by_cmp nat_cmp q w.connection && (eq_by_cmp_equiv places_total).symm at (place_of w) i)
  where
    two : (a b : Ordering) → is_eq (ordering_then a b) ≡ (is_eq b && is_eq a)
    two Less Less = refl
    two Less Equal = refl
    two Less Greater = refl
    two Equal Less = refl
    two Equal Equal = refl
    two Equal Greater = refl
    two Greater Less = refl
    two Greater Equal = refl
    two Greater Greater = refl

waits_items : (table : Watches) (places : List Place) (q : ℕ)
    → waits_at table places q ≡ list_any (λ w. eq_by_cmp nat_cmp q w.connection && list_any (λ at. is_at at w) places) (items table)
waits_items table [] q = sym (any_none (λ (w : Watch). eq_by_cmp nat_cmp q w.connection) (items table))
waits_items table (at ∷ places) q =
    (λ i. (contains-items table (watch at.path at.kind q) ∙ any_same _ _ (waiting_one at q) (items table)) i || waits_items table places q i)
    ∙ any_either (λ (w : Watch). eq_by_cmp nat_cmp q w.connection) (is_at at) (λ w. list_any (λ at. is_at at w) places) (items table)

-- who waits where an event fires is to be notified
pub waiting_is : (table : Watches) (event : EventKind) (path : Path) (q : ℕ) → waits_at table (fired_at event path) q ≡ contains (reported table event path) q
waiting_is table event path q =
    let rows = items table in
    waits_items table (fired_at event path) q
    ∙ sym (reported_members rows (fired_at event path) (eq_by_cmp nat_cmp q))
    ∙ sym (contains-from_list nat_cmp_total (reported_by rows (fired_at event path)) q)
    ∙ ap (λ (s : FinSet nat_cmp). contains s q) (reported_is rows event path)
    ∙ ap (λ (t : Watches). contains (reported t event path) q) (sym (of_items table))

pub reported_lists : (table : Watches) (event : EventKind) (path : Path) (none all numbers : List ℕ) → none ≡ []
    → AddsWaiting table none all (fired_at event path) → Lists numbers (from_list {R = nat_cmp} all) → Lists numbers (reported table event path)
reported_lists table event path none all numbers empty adds lists = subst (λ s. Lists numbers s) same lists
  where
    same : from_list {R = nat_cmp} all ≡ reported table event path
    same = same_set nat_cmp_total nat_cmp-IsAntisymmetric _ _ (λ q.
        contains-from_list nat_cmp_total all q
        ∙ adds q
        ∙ ap (λ xs. list_any (eq_by_cmp nat_cmp q) xs || waits_at table (fired_at event path) q) empty
        ∙ waiting_is table event path q)

-- those who wait at some positions are added, and then those at others
pub adds_both : (table : Watches) (old mid new : List ℕ) (first more : List Place) → AddsWaiting table old mid first → AddsWaiting table mid new more
    → AddsWaiting table old new (first ++ more)
adds_both table old mid new first more one two q =
    two q
    ∙ ap (λ b. b || waits_at table more q) (one q)
    ∙ assoc (list_any (eq_by_cmp nat_cmp q) old) (waits_at table first q) (waits_at table more q)
    ∙ ap (λ b. list_any (eq_by_cmp nat_cmp q) old || b) (sym (list_any-append (λ at. contains table (watch at.path at.kind q)) first more))
  where
    assoc : (a b c : Bool) → ((a || b) || c) ≡ (a || (b || c))
    assoc true b c = refl
    assoc false b c = refl

-- ---- sorted, and each once

tied : (x y : ℕ) → eq_by_cmp nat_cmp x y ≡ true → x ≡ y
tied x y e = nat_cmp-IsAntisymmetric x y ((Equal-is (nat_cmp x y)).0 e)

dedup_members : (xs : List ℕ) (q : ℕ) → list_any (eq_by_cmp nat_cmp q) (dedup eqb xs) ≡ list_any (eq_by_cmp nat_cmp q) xs
dedup_members xs q = both_ways _ _
    (λ one. list_any-from_Contains (eq_by_cmp_equiv nat_cmp_total) q xs (Contains-from_dedup eqb xs q (Contains-from_any tied q (dedup eqb xs) one)))
    (λ one. list_any-from_Contains (eq_by_cmp_equiv nat_cmp_total) q (dedup eqb xs) (Contains-dedup_nat xs q (Contains-from_any tied q xs one)))

pub rising_lists : (xs ys zs : List ℕ) → IsPermutation xs ys → IsSorted nat_cmp ys → zs ≡ dedup eqb ys → Lists zs (from_list {R = nat_cmp} xs)
rising_lists xs ys zs moved sorted is = subst (λ vs. Lists vs (from_list {R = nat_cmp} xs)) (sym is) (record {
  rising = sorted_from_strictly_increasing (dedup eqb ys) (IsStrictlyIncreasing-dedup ys sorted);
  same = same_list nat_cmp_total nat_cmp-IsAntisymmetric _ _ (λ q. dedup_members ys q ∙ sym (list_any-IsPermutation (eq_by_cmp nat_cmp q) xs ys moved));
})
