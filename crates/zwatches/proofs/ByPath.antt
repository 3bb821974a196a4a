-- Rows of slots under paths, as a table of watches.
use Rattle.std.proofs.Common.{◌≡◌, ℕ, Bool, true, false, cond, not, ◌&&◌, ◌||◌, List, [], ◌∷◌, length, Option, Some, refl, sym, ap, ◌∙◌, arith}
use Rattle.std.specs.declared.cmp.Ordering.{Ordering}
use Rattle.std.specs.declared.cmp.Ordering.TheVariants.{Less, Equal, Greater}
use Rattle.std.specs.Ordering.{is_eq, eq_by_cmp, nat_cmp, ordering_then}
use Rattle.std.specs.Cmp.{Equal-is, eq_by_cmp_equiv}
use Rattle.std.specs.List.{list_any}
use Rattle.std.specs.List.Sorted.{IsStrictlySortedBy}
use Rattle.std.specs.Map.{KeepsOthers, lookup, keys_of}
use Rattle.std.specs.BTreeMap.{is_at}
use Rattle.std.specs.BTreeSet.{BTreeSet}
use Rattle.std.specs.Global.{Vec}
use Rattle.std.specs.FinSet.{contains, from_list, insert, items, remove, contains-from_list, contains-insert, contains-remove, same_set}
use Rattle.zpath.specs.Grammar.{path_cmp}
use Rattle.zwatches.specs.declared.kind.Kind.{Kind}
use Rattle.zwatches.specs.declared.slot.Slot.{Slot}
use Rattle.zwatches.specs.declared.watch.Watch.{Watch}
use Rattle.zwatches.specs.Watches.{Path, Watches, kind_number, place, watch_cmp}
use Rattle.zwatches.specs.Events as events
use Rattle.zwatches.specs.support.Nested.{held, is_of, one_of, slot_cmp, slot_of, slots_total, watch_at}
use Rattle.zwatches.proofs.Nested.{held_any}
use Rattle.zwatches.proofs.Order.{paths_total, same_path, watches_total, same_watch}
use Rattle.zwatches.proofs.Sets.{any-items}

-- ---- when watches and slots are one

three : (a b c : Ordering) → is_eq (ordering_then (ordering_then a b) c) ≡ (is_eq a && is_eq (ordering_then b c))
three Less b c = refl
three Equal b c = refl
three Greater b c = refl

two : (a b : Ordering) → is_eq (ordering_then a b) ≡ (is_eq a && is_eq b)
two Less b = refl
two Equal b = refl
two Greater b = refl

-- a watch is that at a path and a slot
pub watch_is : (w : Watch) (path : Path) (s : Slot) → eq_by_cmp watch_cmp w (watch_at path s) ≡ (eq_by_cmp path_cmp w.path path && eq_by_cmp slot_cmp (slot_of w) s)
watch_is w path s = three (path_cmp w.path path) (nat_cmp (kind_number w.kind) (kind_number s.kind)) (nat_cmp w.connection s.connection)

path_itself : (path : Path) → eq_by_cmp path_cmp path path ≡ true
path_itself path = (eq_by_cmp_equiv paths_total).refl path

pub path_same : (a b : Path) → eq_by_cmp path_cmp a b ≡ true → a ≡ b
path_same a b e = same_path a b ((Equal-is (path_cmp a b)).0 e)

-- at one path it is that of the slot
here_is : (path : Path) (s t : Slot) → eq_by_cmp watch_cmp (watch_at path s) (watch_at path t) ≡ eq_by_cmp slot_cmp s t
here_is path s t = watch_is (watch_at path s) path t ∙ ap (λ b. b && eq_by_cmp slot_cmp s t) (path_itself path)

-- ---- rows, whose keys are seen as paths, and whose values as slots

module _ {K V : Type 0} (names : K → Path) (slots : V → List Slot) where
  -- the table, and what a look-up of a path finds
  abbrev pub table_of : List (K × V) → Watches
  table_of rows = from_list (held rows slots (λ k s. watch_at (names k) s))

  abbrev pub found_at : Path → List (K × V) → Option V
  found_at path rows = lookup (is_at (λ k. path_cmp path (names k))) rows

  abbrev pub Rise : List (K × V) → Type 0
  Rise rows = IsStrictlySortedBy (λ a b. path_cmp (names a) (names b)) (keys_of rows)

  -- whether a watch is there
  pub contains-rows : (rows : List (K × V)) → Rise rows → (w : Watch)
      → contains (table_of rows) w ≡ one_of (found_at w.path rows) slots (eq_by_cmp slot_cmp (slot_of w))
  contains-rows rows rise w =
      contains-from_list watches_total (held rows slots (λ k s. watch_at (names k) s)) w
      ∙ held_any (λ a b. path_cmp (names a) (names b)) slots (λ k s. watch_at (names k) s) (λ k. path_cmp w.path (names k))
      (λ x y e. paths_total.congr w.path (names x) (names y) e) (eq_by_cmp watch_cmp w) (eq_by_cmp slot_cmp (slot_of w))
      (λ k s. watch_is w (names k) s) rows rise

  -- whether one is at a position
  at_is : (path : Path) (kind : Kind) (k : K) (s : Slot)
      → events.is_at (place path kind) (watch_at (names k) s) ≡ (is_at (λ k. path_cmp path (names k)) k && is_of kind s)
  at_is path kind k s =
      two (path_cmp (names k) path) (nat_cmp (kind_number s.kind) (kind_number kind))
      ∙ ap (λ b. b && is_of kind s) ((eq_by_cmp_equiv paths_total).symm (names k) path)

  pub has-rows : (rows : List (K × V)) → Rise rows → (path : Path) (kind : Kind)
      → list_any (events.is_at (place path kind)) (items (table_of rows)) ≡ one_of (found_at path rows) slots (is_of kind)
  has-rows rows rise path kind =
      any-items watches_total same_watch (events.is_at (place path kind)) (held rows slots (λ k s. watch_at (names k) s))
      ∙ held_any (λ a b. path_cmp (names a) (names b)) slots (λ k s. watch_at (names k) s) (λ k. path_cmp path (names k))
      (λ x y e. paths_total.congr path (names x) (names y) e) (events.is_at (place path kind)) (is_of kind) (at_is path kind) rows rise

  -- ---- a change at one path

  found_elsewhere : (old new : List (K × V)) (at path : Path) → KeepsOthers (eq_by_cmp (λ a b. path_cmp (names a) (names b))) (is_at (λ k. path_cmp at (names k))) old new
      → eq_by_cmp path_cmp path at ≡ false → found_at path new ≡ found_at path old
  unfolding KeepsOthers
  found_elsewhere old new at path keeps other = keeps (is_at (λ k. path_cmp path (names k)))
      (λ x y e. ap is_eq (paths_total.congr path (names x) (names y) ((Equal-is (path_cmp path (names x))).0 e)))
      (λ k e. ap (eq_by_cmp path_cmp path) (sym (path_same at (names k) e)) ∙ other)

  -- rows that differ at one path make the table that has the watches there, and elsewhere those that were there
  pub table_after : (old new : List (K × V)) → Rise old → Rise new → (at : Path) (found : Option V) (table : Watches)
      → found_at at new ≡ found
      → KeepsOthers (eq_by_cmp (λ a b. path_cmp (names a) (names b))) (is_at (λ k. path_cmp at (names k))) old new
      → ((s : Slot) → one_of found slots (eq_by_cmp slot_cmp s) ≡ contains table (watch_at at s))
      → ((w : Watch) → eq_by_cmp path_cmp w.path at ≡ false → contains (table_of old) w ≡ contains table w)
      → table_of new ≡ table
  table_after old new rise rises at found table is keeps here elsewhere =
      same_set watches_total same_watch _ _ (λ w. by w (eq_by_cmp path_cmp w.path at) refl)
    where
      by : (w : Watch) (b : Bool) → eq_by_cmp path_cmp w.path at ≡ b → contains (table_of new) w ≡ contains table w
      by w true e =
          let same : w.path ≡ at = path_same w.path at e in
          contains-rows new rises w
          ∙ ap (λ (p : Path). one_of (found_at p new) slots (eq_by_cmp slot_cmp (slot_of w))) same
          ∙ ap (λ (o : Option V). one_of o slots (eq_by_cmp slot_cmp (slot_of w))) is
          ∙ here (slot_of w)
          ∙ ap (λ (p : Path). contains table (watch_at p (slot_of w))) (sym same)
      by w false e =
          contains-rows new rises w
          ∙ ap (λ (o : Option V). one_of o slots (eq_by_cmp slot_cmp (slot_of w))) (found_elsewhere old new at w.path keeps e)
          ∙ sym (contains-rows old rise w)
          ∙ elsewhere w e

  module _ (old new : List (K × V)) (rise : Rise old) (rises : Rise new) (at : Path) (s : Slot)
      (keeps : KeepsOthers (eq_by_cmp (λ a b. path_cmp (names a) (names b))) (is_at (λ k. path_cmp at (names k))) old new) where
    apart : (w : Watch) → eq_by_cmp path_cmp w.path at ≡ false → eq_by_cmp watch_cmp w (watch_at at s) ≡ false
    apart w e = watch_is w at s ∙ ap (λ b. b && eq_by_cmp slot_cmp (slot_of w) s) e

    was_here : (q : Slot) → contains (table_of old) (watch_at at q) ≡ one_of (found_at at old) slots (eq_by_cmp slot_cmp q)
    was_here q = contains-rows old rise (watch_at at q)

    -- a slot more
    pub with_slot : (found : Option V) → found_at at new ≡ found
        → ((q : Slot) → one_of found slots (eq_by_cmp slot_cmp q) ≡ (eq_by_cmp slot_cmp q s || one_of (found_at at old) slots (eq_by_cmp slot_cmp q)))
        → table_of new ≡ insert (table_of old) (watch_at at s)
    with_slot found is more =
        table_after old new rise rises at found (insert (table_of old) (watch_at at s)) is keeps
        (λ q.
        more q
        ∙ sym (contains-insert watches_total (table_of old) (watch_at at s) (watch_at at q) ∙ (λ i. here_is at q s i || was_here q i)))
        (λ w e.
        sym (contains-insert watches_total (table_of old) (watch_at at s) w ∙ ap (λ b. b || contains (table_of old) w) (apart w e)))

    -- no change
    pub same_slots : (found : Option V) → found_at at new ≡ found
        → ((q : Slot) → one_of found slots (eq_by_cmp slot_cmp q) ≡ one_of (found_at at old) slots (eq_by_cmp slot_cmp q)) → table_of new ≡ table_of old
    same_slots found is same = table_after old new rise rises at found (table_of old) is keeps (λ q. same q ∙ sym (was_here q)) (λ w e. refl)

    -- a slot less
    pub without_slot : (found : Option V) → found_at at new ≡ found
        → ((q : Slot) → one_of found slots (eq_by_cmp slot_cmp q) ≡ (not (eq_by_cmp slot_cmp q s) && one_of (found_at at old) slots (eq_by_cmp slot_cmp q)))
        → table_of new ≡ remove (table_of old) (watch_at at s)
    without_slot found is less =
        table_after old new rise rises at found (remove (table_of old) (watch_at at s)) is keeps
        (λ q.
        less q
        ∙ sym (contains-remove watches_total (table_of old) (watch_at at s) (watch_at at q)
        ∙ (λ i. not (here_is at q s i) && was_here q i)))
        (λ w e.
        sym (contains-remove watches_total (table_of old) (watch_at at s) w ∙ ap (λ b. not b && contains (table_of old) w) (apart w e)))

-- ---- what is found under one key, with a slot more or less

module _ {V : Type 0} (slots : V → List Slot) (s : Slot) (old : Option V) (new : V) where
  abbrev has : Option V → Slot → Bool
  has found q = one_of found slots (eq_by_cmp slot_cmp q)

  pub more_slots : ((q : Slot) → has (Some new) q ≡ cond (is_at (slot_cmp s) q) true (has old q)) → (q : Slot) → has (Some new) q ≡ (eq_by_cmp slot_cmp q s || has old q)
  more_slots is q = is q ∙ by (is_at (slot_cmp s) q) (has old q) ∙ ap (λ b. b || has old q) ((eq_by_cmp_equiv slots_total).symm s q)
    where
      by : (a b : Bool) → cond a true b ≡ (a || b)
      by true b = refl
      by false b = refl

  pub less_slots : ((q : Slot) → has (Some new) q ≡ cond (is_at (slot_cmp s) q) false (has old q)) → (q : Slot) → has (Some new) q ≡ (not (eq_by_cmp slot_cmp q s) && has old q)
  less_slots is q = is q ∙ by (is_at (slot_cmp s) q) (has old q) ∙ ap (λ b. not b && has old q) ((eq_by_cmp_equiv slots_total).symm s q)
    where
      by : (a b : Bool) → cond a false b ≡ (not a && b)
      by true b = refl
      by false b = refl

-- one change after another of what is under one key
pub keeps_both : {K X : Type 0} (eq : K → K → Bool) (test : K → Bool) (a b c : List (K × X)) → KeepsOthers eq test a b → KeepsOthers eq test b c → KeepsOthers eq test a c
unfolding KeepsOthers
keeps_both eq test a b c first then other key apart = then other key apart ∙ first other key apart

-- ---- the keys of the tree by path, and what is there

abbrev pub names_of : Vec (List ℕ) → Path
names_of key = key.items

abbrev pub slots_in : BTreeSet Slot → List Slot
slots_in found = found.keys

pub no_slots : (slots : List Slot) → length slots ≡ 0 → slots ≡ []
no_slots [] none = refl
no_slots (s ∷ slots) none = absurd (omega (arith, none))
