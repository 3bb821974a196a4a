-- The slots of a kind.
use Rattle.std.proofs.Common.{◌≡◌, ℕ, zero, suc, Bool, true, false, not, ◌&&◌, List, Option, None, Some, refl, sym, ap, ◌∙◌, arith}
use Rattle.std.specs.Prelude.{is_some}
use Rattle.std.specs.Map.Iter.{TakesFirst}
use Rattle.std.specs.declared.cmp.Ordering.{Ordering}
use Rattle.std.specs.declared.cmp.Ordering.TheVariants.{Less, Equal, Greater}
use Rattle.std.specs.declared.ops.Bound.TheVariants.{Included}
use Rattle.std.specs.Ordering.{is_eq, is_le, eq_by_cmp, nat_cmp, ordering_then}
use Rattle.std.specs.Cmp.{eq_by_cmp_equiv, nat_cmp_is, nat_cmp_total}
use Rattle.std.specs.List.{filter, list_any}
use Rattle.std.specs.BTreeMap.Range.{range_contains, is_past_end}
use Rattle.zwatches.specs.declared.kind.Kind.{Kind}
use Rattle.zwatches.specs.declared.kind.Kind.TheVariants.{Data, Missing, Children, EachData, EachChildren, Recursive}
use Rattle.zwatches.specs.declared.slot.Slot.{Slot}
use Rattle.zwatches.specs.Watches.{kind_number}
use Rattle.zwatches.specs.support.Nested.{end_of, is_of, slot, slot_cmp}
use Rattle.zwatches.proofs.Reporting.{any_filter, any_same, filter_same}

-- no connection is below the first
first_le : (n : ℕ) → is_le (nat_cmp 0 n) ≡ true
first_le zero = refl
first_le (suc n) = sym (ap is_le (nat_cmp_is 0 (suc n) Less (omega arith)))

then_le : (r s : Ordering) → is_le s ≡ true → is_le (ordering_then r s) ≡ is_le r
then_le Less s e = refl
then_le Equal s e = e
then_le Greater s e = refl

-- a slot is from the first of a kind on exactly if its kind is
from_first : (kind : Kind) (s : Slot) → is_le (slot_cmp (slot kind 0) s) ≡ is_le (nat_cmp (kind_number kind) (kind_number s.kind))
from_first kind s = then_le (nat_cmp (kind_number kind) (kind_number s.kind)) (nat_cmp 0 s.connection) (first_le s.connection)

-- the end of a kind, of kinds alone
abbrev is_past : Kind → Kind → Bool
is_past Data k = is_le (nat_cmp 1 (kind_number k))
is_past Missing k = is_le (nat_cmp 2 (kind_number k))
is_past Children k = is_le (nat_cmp 3 (kind_number k))
is_past EachData k = is_le (nat_cmp 4 (kind_number k))
is_past EachChildren k = is_le (nat_cmp 5 (kind_number k))
is_past Recursive k = false

past_end : (kind : Kind) (s : Slot) → is_past_end slot_cmp (end_of kind) s ≡ is_past kind s.kind
past_end Data s = from_first Missing s
past_end Missing s = from_first Children s
past_end Children s = from_first EachData s
past_end EachData s = from_first EachChildren s
past_end EachChildren s = from_first Recursive s
past_end Recursive s = refl

between_kinds : (kind k : Kind) → (is_le (nat_cmp (kind_number kind) (kind_number k)) && not (is_past kind k)) ≡ is_eq (nat_cmp (kind_number k) (kind_number kind))
between_kinds Data Data = refl
between_kinds Data Missing = refl
between_kinds Data Children = refl
between_kinds Data EachData = refl
between_kinds Data EachChildren = refl
between_kinds Data Recursive = refl
between_kinds Missing Data = refl
between_kinds Missing Missing = refl
between_kinds Missing Children = refl
between_kinds Missing EachData = refl
between_kinds Missing EachChildren = refl
between_kinds Missing Recursive = refl
between_kinds Children Data = refl
between_kinds Children Missing = refl
between_kinds Children Children = refl
between_kinds Children EachData = refl
between_kinds Children EachChildren = refl
between_kinds Children Recursive = refl
between_kinds EachData Data = refl
between_kinds EachData Missing = refl
between_kinds EachData Children = refl
between_kinds EachData EachData = refl
between_kinds EachData EachChildren = refl
between_kinds EachData Recursive = refl
between_kinds EachChildren Data = refl
between_kinds EachChildren Missing = refl
between_kinds EachChildren Children = refl
between_kinds EachChildren EachData = refl
between_kinds EachChildren EachChildren = refl
between_kinds EachChildren Recursive = refl
between_kinds Recursive Data = refl
between_kinds Recursive Missing = refl
between_kinds Recursive Children = refl
between_kinds Recursive EachData = refl
between_kinds Recursive EachChildren = refl
between_kinds Recursive Recursive = refl

-- the slots between the first of a kind and its end are those of the kind
between : (kind : Kind) (s : Slot) → range_contains slot_cmp (Included (slot kind 0)) (end_of kind) s ≡ is_of kind s
between kind s = (λ i. from_first kind s i && not (past_end kind s i)) ∙ between_kinds kind s.kind

pub of_kind : (kind : Kind) (slots : List Slot) → filter (range_contains slot_cmp (Included (slot kind 0)) (end_of kind)) slots ≡ filter (is_of kind) slots
of_kind kind slots = filter_same _ _ (between kind) slots

-- a connection is among those of the kind's slots exactly if its slot is there
slot_is : (kind : Kind) (q : ℕ) (s : Slot) → (eq_by_cmp nat_cmp q s.connection && is_of kind s) ≡ eq_by_cmp slot_cmp (slot kind q) s
slot_is kind q s =
    ap (λ b. eq_by_cmp nat_cmp q s.connection && b) ((eq_by_cmp_equiv nat_cmp_total).symm (kind_number s.kind) (kind_number kind))
    ∙ by (nat_cmp (kind_number kind) (kind_number s.kind)) (nat_cmp q s.connection)
  where
    by : (a b : Ordering) → (is_eq b && is_eq a) ≡ is_eq (ordering_then a b)
    by Less Less = refl
    by Less Equal = refl
    by Less Greater = refl
    by Equal Less = refl
    by Equal Equal = refl
    by Equal Greater = refl
    by Greater Less = refl
    by Greater Equal = refl
    by Greater Greater = refl

pub connections_of : (kind : Kind) (q : ℕ) (slots : List Slot)
    → list_any (λ (s : Slot). eq_by_cmp nat_cmp q s.connection) (filter (is_of kind) slots) ≡ list_any (eq_by_cmp slot_cmp (slot kind q)) slots
connections_of kind q slots =
    any_filter (λ (s : Slot). eq_by_cmp nat_cmp q s.connection) (is_of kind) slots
    ∙ any_same _ _ (slot_is kind q) slots

-- there is a first of them exactly if there is one
pub first_of : {A : Type 0} (shows : A → Slot) (kind : Kind) (slots some : List Slot) (first : Option A) (left : List Slot) → some ≡ filter (is_of kind) slots
    → TakesFirst shows some first left → is_some first ≡ list_any (is_of kind) slots
first_of {A} shows kind slots some first left is takes =
    by first takes ∙ ap (list_any (λ (s : Slot). true)) is ∙ any_filter (λ (s : Slot). true) (is_of kind) slots
  where
    by : (o : Option A) → TakesFirst shows some o left → is_some o ≡ list_any (λ (s : Slot). true) some
    by None takes = sym (ap (list_any (λ (s : Slot). true)) takes.0)
    by (Some x) takes = sym (ap (list_any (λ (s : Slot). true)) takes)
