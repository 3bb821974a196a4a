-- The laws, and what the tables of the worked examples answer.
use Rattle.std.proofs.Common.{◌≡◌, ◌≢◌, ◌↔◌, ℕ, Bool, true, false, not, ◌&&◌, eqb, List, map, refl, sym, ap, ◌∙◌}
use Rattle.std.specs.declared.cmp.Ordering.{Ordering}
use Rattle.std.specs.Ordering.{eq_by_cmp, nat_cmp}
use Rattle.std.specs.Cmp.{IsTotalOrder, eq_by_cmp_equiv, Equal-is}
use Rattle.std.specs.List.{list_any}
use Rattle.std.specs.FinSet.{contains, items, retain, from_list, contains-items, contains-retain, contains-from_list}
use Rattle.std.specs.FinMap.{IsAntisymmetric, nat_cmp-IsAntisymmetric}
use Rattle.std.proofs.lemmas.Bool.{eqb-true}
use Rattle.std.proofs.lemmas.Cmp.{nat_cmp_total}
use Rattle.std.proofs.lemmas.List.Folds.{Any-from_list_any, list_any-from_Any}
use Rattle.std.proofs.lemmas.Map.Views.{Contains-from_any, list_any-from_Contains}
use Rattle.zjute.specs.declared.event.EventKind.{EventKind}
use Rattle.zjute.specs.declared.watch_type.WatchType.{WatchType}
use Rattle.zwatches.specs.declared.watch.Watch.{Watch}
use Rattle.zwatches.specs.Watches.{Path, Watches, fires_once, watch_cmp}
use Rattle.zwatches.specs.Events.{ends, fires, fired_at, is_awaited, reported, unfired}
use Rattle.zwatches.specs.Removal.{has_meant, is_meant}
use Rattle.zwatches.specs.Laws.{ReportsWhoWaits, FiresOnce, FiresEachTime, RemovesOwn}
use Rattle.zwatches.specs.support.Groups.{set_of, reported_by, found_by}
use Rattle.zwatches.proofs.Order.{watches_total, same_watch}
use Rattle.zwatches.proofs.Reporting.{awaited_is, meant_rows, reported_is, any_map}

pub both_true : (a b : Bool) → (a && b) ≡ true → (a ≡ true) × (b ≡ true)
both_true true true e = (refl, refl)
both_true true false e = absurd cc
both_true false b e = absurd cc

tied : (x y : Watch) → eq_by_cmp watch_cmp x y ≡ true → x ≡ y
tied x y e = same_watch x y ((Equal-is (watch_cmp x y)).0 e)

-- what a table filtered by a test contains
pub contains-kept : (table : Watches) (test : Watch → Bool) (w : Watch) → contains (retain table test) w ≡ (contains table w && test w)
contains-kept table test w = contains-retain table test w (λ x e. ap test (sym (same_watch w x e)))

module _ {K : Type 0} {R : K → K → Ordering} (o : IsTotalOrder R) (same : IsAntisymmetric R) (f : Watch → K) (table : Watches) (test : Watch → Bool) (x : K) where
  -- what is of the filtered watches is of one of them
  contains-images : contains (from_list {R = R} (map f (items (retain table test)))) x ≡ list_any (λ (w : Watch). eq_by_cmp R x (f w)) (items (retain table test))
  contains-images = contains-from_list o (map f (items (retain table test))) x ∙ any_map (eq_by_cmp R x) f (items (retain table test))

  kept_images : (contains (from_list {R = R} (map f (items (retain table test)))) x ≡ true) ↔ ((w : Watch) × ((contains table w ≡ true) × (test w ≡ true) × (f w ≡ x)))
  kept_images = (there, back)
    where
      there : contains (from_list {R = R} (map f (items (retain table test)))) x ≡ true → (w : Watch) × ((contains table w ≡ true) × (test w ≡ true) × (f w ≡ x))
      there is =
          let found = Any-from_list_any (λ (w : Watch). eq_by_cmp R x (f w)) (items (retain table test)) (sym contains-images ∙ is) in
          let in_kept = contains-items (retain table test) found.1
          ∙ list_any-from_Contains (eq_by_cmp_equiv watches_total) found.1 (items (retain table test)) (found.0, found.2, found.3) in
          let parts = both_true _ _ (sym (contains-kept table test found.1) ∙ in_kept) in
          (found.1, (parts.0, parts.1, sym (same x (f found.1) ((Equal-is (R x (f found.1))).0 found.4))))

      back : (w : Watch) × ((contains table w ≡ true) × (test w ≡ true) × (f w ≡ x)) → contains (from_list {R = R} (map f (items (retain table test)))) x ≡ true
      back fired =
          let w = fired.0 in
          let in_kept : contains (retain table test) w ≡ true = contains-kept table test w ∙ rw (fired.1.0, fired.1.1) refl in
          let at = Contains-from_any tied w (items (retain table test)) (sym (contains-items (retain table test) w) ∙ in_kept) in
          contains-images
          ∙ list_any-from_Any (λ (w : Watch). eq_by_cmp R x (f w)) (items (retain table test))
          (at.0, w, at.1, at.2, rw fired.1.2 ((eq_by_cmp_equiv o).refl x))

pub reports_who_waits : ReportsWhoWaits
reports_who_waits table event path connection = kept_images nat_cmp_total nat_cmp-IsAntisymmetric (λ w. w.connection) table (fires event path) connection

turned : (b : Bool) → not b ≡ true → b ≡ false
turned true e = absurd cc
turned false e = refl

-- a watch of a table that a test leaves
left_by : (table : Watches) (test : Watch → Bool) (w : Watch) → (contains (retain table (λ w. not (test w))) w ≡ true) ↔ ((contains table w ≡ true) × (test w ≡ false))
left_by table test w = (there, back)
  where
    there : contains (retain table (λ w. not (test w))) w ≡ true → (contains table w ≡ true) × (test w ≡ false)
    there is =
        let parts = both_true _ _ (sym (contains-kept table (λ w. not (test w)) w) ∙ is) in
        (parts.0, turned (test w) parts.1)

    back : (contains table w ≡ true) × (test w ≡ false) → contains (retain table (λ w. not (test w))) w ≡ true
    back both = contains-kept table (λ w. not (test w)) w ∙ rw (both.0, both.1) refl

-- a watch that an event leaves
pub unfired_leaves : (table : Watches) (event : EventKind) (path : Path) (w : Watch) → contains (unfired table event path) w ≡ true → (contains table w ≡ true) × (ends event path w ≡ false)
unfired_leaves table event path w = (left_by table (ends event path) w).0

and_true : (a b : Bool) → b ≡ true → (a && b) ≡ a
and_true true b e = e
and_true false b e = refl

and_false : (a b : Bool) → b ≡ false → (a && b) ≡ false
and_false true b e = e
and_false false b e = refl

-- a watch that waits for one change ends where it fires
pub ends_once : (event : EventKind) (path : Path) (w : Watch) → fires_once w.kind ≡ true → ends event path w ≡ fires event path w
ends_once event path w once = and_true (fires event path w) (fires_once w.kind) once

pub fires_once_is : FiresOnce
fires_once_is table event path w once =
    let left = left_by table (ends event path) w in
    let same = and_true (fires event path w) (fires_once w.kind) once in (
      λ is. let parts = left.0 is in (parts.0, sym same ∙ parts.1),
      λ both. left.1 (both.0, same ∙ both.1),
    )

pub fires_each_time : FiresEachTime
fires_each_time table event path w each =
    let left = left_by table (ends event path) w in
    (λ is. (left.0 is).0, λ there. left.1 (there, and_false (fires event path w) (fires_once w.kind) each))

pub removes_own : RemovesOwn
removes_own table connection type path w =
    let left = left_by table (is_meant connection type path) w in
    (left, λ other there. left.1 (there, not_own other (eqb w.connection connection) refl))
  where
    not_own : w.connection ≢ connection → (b : Bool) → eqb w.connection connection ≡ b → is_meant connection type path w ≡ false
    not_own other true e = absurd (other (eqb-true _ _ e))
    not_own other false e = rw e refl

-- of a table of rows
pub reported_here : (rows : List Watch) (event : EventKind) (path : Path) (connection : ℕ) (answer : Bool)
    → list_any (eq_by_cmp nat_cmp connection) (reported_by rows (fired_at event path)) ≡ answer → contains (reported (set_of rows) event path) connection ≡ answer
reported_here rows event path connection answer is =
    ap (λ set. contains set connection) (sym (reported_is rows event path)) ∙ contains-from_list nat_cmp_total (reported_by rows (fired_at event path)) connection ∙ is

pub kept_here : (rows : List Watch) (test : Watch → Bool) (w : Watch) (answer : Bool)
    → (list_any (eq_by_cmp watch_cmp w) rows && test w) ≡ answer → contains (retain (set_of rows) test) w ≡ answer
kept_here rows test w answer is =
    contains-kept (set_of rows) test w ∙ ap (λ b. b && test w) (contains-from_list watches_total rows w) ∙ is

pub awaited_here : (rows : List Watch) (event : EventKind) (path : Path) (answer : Bool) → found_by rows (fired_at event path) ≡ answer → is_awaited (set_of rows) event path ≡ answer
awaited_here rows event path answer is = sym (awaited_is rows event path) ∙ is

pub meant_here : (rows : List Watch) (connection : ℕ) (type : WatchType) (path : Path) (answer : Bool)
    → list_any (is_meant connection type path) rows ≡ answer → has_meant (set_of rows) connection type path ≡ answer
meant_here rows connection type path answer is = sym (meant_rows rows connection type path) ∙ is
