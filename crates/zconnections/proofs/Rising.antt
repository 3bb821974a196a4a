-- On numbers in rising order.
use Rattle.std.proofs.Common.{◌≡◌, ℕ, Bool, true, false, cond, ◌||◌, List, [], ◌∷◌, map, Option, None, Some, refl, sym, ap, ◌∙◌, subst}
use Rattle.std.specs.Ordering.{nat_cmp, eq_by_cmp}
use Rattle.std.specs.Cmp.{nat_cmp_total}
use Rattle.std.specs.List.{list_any}
use Rattle.std.specs.List.Sorted.{IsStrictlySortedBy}
use Rattle.std.specs.FinMap.{FinMap, entries, from_entries, find, get, get-from_entries, keys, same_map, nat_cmp-IsAntisymmetric}
use Rattle.std.specs.FinSet.{FinSet, contains, contains-items, contains-from_list, items}
use Rattle.ztree.proofs.Entries.{entries-rising}
use Rattle.zwatches.specs.Events.{Lists}
use Rattle.zconnections.specs.Reporting.{in_order}

-- numbers, as keys of a map
abbrev marked : List ℕ → List (ℕ × Unit {0})
marked xs = map (λ x. (x, tt)) xs

abbrev as_map : List ℕ → FinMap nat_cmp (Unit {0})
as_map xs = from_entries {R = nat_cmp} (marked xs)

keys-marked : (xs : List ℕ) → map (λ e. e.0) (marked xs) ≡ xs
keys-marked [] = refl
keys-marked (x ∷ xs) = ap (λ ys. x ∷ ys) (keys-marked xs)

entries-marked : (xs : List ℕ) → IsStrictlySortedBy nat_cmp xs → entries (as_map xs) ≡ marked xs
entries-marked xs rising = entries-rising (marked xs) (subst (IsStrictlySortedBy nat_cmp) (sym (keys-marked xs)) rising)

found : Bool → Option (Unit {0})
found b = cond b (Some tt) None

find-marked : (xs : List ℕ) (q : ℕ) → find nat_cmp q (marked xs) ≡ found (list_any (eq_by_cmp nat_cmp q) xs)
unfolding found
find-marked [] q = refl
find-marked (x ∷ xs) q =
    elim (eq_by_cmp nat_cmp q x) as (λ b. cond b (Some tt) (find nat_cmp q (marked xs)) ≡ found (b || list_any (eq_by_cmp nat_cmp q) xs)) [
      | true ↦ refl
      | false ↦ find-marked xs q
    ]

get-marked : (xs : List ℕ) (q : ℕ) → get (as_map xs) q ≡ found (list_any (eq_by_cmp nat_cmp q) xs)
get-marked xs q = get-from_entries nat_cmp_total (marked xs) q ∙ find-marked xs q

-- the same members make the same map
same_members : (xs ys : List ℕ) → ((q : ℕ) → list_any (eq_by_cmp nat_cmp q) xs ≡ list_any (eq_by_cmp nat_cmp q) ys) → as_map xs ≡ as_map ys
same_members xs ys same =
    same_map nat_cmp_total nat_cmp-IsAntisymmetric _ _ (λ q. get-marked xs q ∙ ap found (same q) ∙ sym (get-marked ys q))

-- a rising list with a set's members has them in order
pub in_order-members : (xs : List ℕ) (set : FinSet nat_cmp) → IsStrictlySortedBy nat_cmp xs → ((q : ℕ) → list_any (eq_by_cmp nat_cmp q) xs ≡ contains set q) → xs ≡ in_order set
in_order-members xs set rising members =
    sym (keys-marked xs)
    ∙ ap (map (λ e. e.0)) (sym (entries-marked xs rising))
    ∙ ap keys (same_members xs (items set) (λ q. members q ∙ contains-items set q))

-- so has a list that lists it
pub in_order-Lists : (xs : List ℕ) (set : FinSet nat_cmp) → Lists xs set → xs ≡ in_order set
in_order-Lists xs set l =
    in_order-members xs set l.rising (λ q. sym (contains-from_list nat_cmp_total xs q) ∙ ap (λ s. contains s q) l.same)
