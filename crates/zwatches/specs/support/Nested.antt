-- Tables under two keys, as lists: what each of some rows holds under a key of its own.
use Rattle.std.specs.Prelude.{◌≡◌, ℕ, Bool, true, false, List, [], ◌∷◌, ◌++◌, map, Option}
use Rattle.std.specs.declared.cmp.Ordering.{Ordering}
use Rattle.std.specs.Option.{option_map_or}
use Rattle.std.specs.List.{list_any}
use Rattle.std.specs.Cmp.{IsTotalOrder, nat_cmp_total, on_total, then_total}
use Rattle.std.specs.FinSet.{contains}
use Rattle.std.specs.Map.{lookup}
use Rattle.std.specs.BTreeMap.{is_at}
use Rattle.std.specs.BTreeSet.{BTreeSet, keys}
use Rattle.std.specs.Ordering.{eq_by_cmp, is_eq, nat_cmp, ordering_then}
use Rattle.std.specs.declared.ops.Bound.{Bound}
use Rattle.std.specs.declared.ops.Bound.TheVariants.{Excluded, Unbounded}
use Rattle.zwatches.specs.declared.kind.Kind.{Kind}
use Rattle.zwatches.specs.declared.kind.Kind.TheVariants.{Data, Missing, Children, EachData, EachChildren, Recursive}
use Rattle.zwatches.specs.declared.slot.Slot.{Slot}
use Rattle.zwatches.specs.declared.watch.Watch.{Watch}
use Rattle.zpath.specs.Grammar.{path_cmp}
use Rattle.zwatches.specs.Watches.{Path, Watches, kind_number, watch}

-- all that the rows hold, in order; each is made of its row's key and itself
abbrev pub held : {K V X W : Type 0} → List (K × V) → (V → List X) → (K → X → W) → List W
held [] elements make = []
held (row ∷ rows) elements make = map (make row.0) (elements row.1) ++ held rows elements make

-- what is found under a key has an element that passes
abbrev pub one_of : {V X : Type 0} → Option V → (V → List X) → (X → Bool) → Bool
one_of found elements passes = option_map_or (λ v. list_any passes (elements v)) found false

-- the order of slots
abbrev pub slot_cmp : Slot → Slot → Ordering
slot_cmp a b =
    ordering_then (nat_cmp (kind_number a.kind) (kind_number b.kind)) (nat_cmp a.connection b.connection)

pub slots_total : IsTotalOrder slot_cmp
slots_total =
    then_total (on_total (λ (s : Slot). kind_number s.kind) nat_cmp_total)
    (on_total (λ (s : Slot). s.connection) nat_cmp_total)

-- a slot from its parts, that of a watch, and a watch from its path and its slot
abbrev pub slot : Kind → ℕ → Slot
slot kind connection = record { kind = kind; connection = connection }

abbrev pub slot_of : Watch → Slot
slot_of w = slot w.kind w.connection

abbrev pub watch_at : Path → Slot → Watch
watch_at path s = watch path s.kind s.connection

-- the slot is of this kind
abbrev pub is_of : Kind → Slot → Bool
is_of kind s = is_eq (nat_cmp (kind_number s.kind) (kind_number kind))

-- where the slots of a kind end
abbrev pub end_of : Kind → Bound Slot
end_of Data = Excluded (slot Missing 0)
end_of Missing = Excluded (slot Children 0)
end_of Children = Excluded (slot EachData 0)
end_of EachData = Excluded (slot EachChildren 0)
end_of EachChildren = Excluded (slot Recursive 0)
end_of Recursive = Unbounded

-- a connection has this path
abbrev pub has_path : List (ℕ × BTreeSet Path) → ℕ → Path → Bool
has_path rows connection path =
    one_of (lookup (is_at (nat_cmp connection)) rows) keys (eq_by_cmp path_cmp path)

-- each watch has its path under its connection
abbrev pub AreFound : List (ℕ × BTreeSet Path) → Watches → Type 0
AreFound rows table =
    (w : Watch) → contains table w ≡ true → has_path rows w.connection w.path ≡ true
