-- The orders of positions and watches.
use Rattle.std.proofs.Common.{◌≡◌, refl, arith}
use Rattle.std.specs.declared.cmp.Ordering.{Ordering}
use Rattle.std.specs.declared.cmp.Ordering.TheVariants.{Less, Equal, Greater}
use Rattle.std.specs.Ordering.{nat_cmp, ordering_then}
use Rattle.std.specs.Cmp.{IsTotalOrder}
use Rattle.std.specs.Cmp.Lexicographic.{lists_total, nat_list_cmp_total}
use Rattle.std.specs.FinMap.{IsAntisymmetric, slice_cmp-IsAntisymmetric, nat_cmp-IsAntisymmetric}
use Rattle.std.proofs.lemmas.Cmp.{then_total, on_total, nat_cmp_total}
use Rattle.zpath.specs.Grammar.{path_cmp}
use Rattle.zwatches.specs.declared.kind.Kind.{Kind}
use Rattle.zwatches.specs.declared.kind.Kind.TheVariants.{Data, Missing, Children, EachData, EachChildren, Recursive}
use Rattle.zwatches.specs.Watches.{Place}
use Rattle.zwatches.specs.declared.watch.Watch.{Watch}
use Rattle.zwatches.specs.Watches.{place_cmp, place_of, watch_cmp, kind_number}

pub paths_total : IsTotalOrder path_cmp
paths_total = lists_total nat_list_cmp_total

pub same_path : IsAntisymmetric path_cmp
same_path = slice_cmp-IsAntisymmetric (slice_cmp-IsAntisymmetric nat_cmp-IsAntisymmetric)

pub places_total : IsTotalOrder place_cmp
places_total = then_total (on_total (λ (p : Place). p.path) paths_total) (on_total (λ (p : Place). kind_number p.kind) nat_cmp_total)

pub watches_total : IsTotalOrder watch_cmp
watches_total = then_total (on_total place_of places_total) (on_total (λ (w : Watch). w.connection) nat_cmp_total)

then_equal : (a b : Ordering) → ordering_then a b ≡ Equal → (a ≡ Equal) × (b ≡ Equal)
then_equal Less b e = absurd cc
then_equal Equal b e = (refl, e)
then_equal Greater b e = absurd cc

pub kind_same : (a b : Kind) → kind_number a ≡ kind_number b → a ≡ b
kind_same Data Data e = refl
kind_same Missing Missing e = refl
kind_same Children Children e = refl
kind_same EachData EachData e = refl
kind_same EachChildren EachChildren e = refl
kind_same Recursive Recursive e = refl
kind_same Data Missing e = absurd (omega (arith, e))
kind_same Data Children e = absurd (omega (arith, e))
kind_same Data EachData e = absurd (omega (arith, e))
kind_same Data EachChildren e = absurd (omega (arith, e))
kind_same Data Recursive e = absurd (omega (arith, e))
kind_same Missing Data e = absurd (omega (arith, e))
kind_same Missing Children e = absurd (omega (arith, e))
kind_same Missing EachData e = absurd (omega (arith, e))
kind_same Missing EachChildren e = absurd (omega (arith, e))
kind_same Missing Recursive e = absurd (omega (arith, e))
kind_same Children Data e = absurd (omega (arith, e))
kind_same Children Missing e = absurd (omega (arith, e))
kind_same Children EachData e = absurd (omega (arith, e))
kind_same Children EachChildren e = absurd (omega (arith, e))
kind_same Children Recursive e = absurd (omega (arith, e))
kind_same EachData Data e = absurd (omega (arith, e))
kind_same EachData Missing e = absurd (omega (arith, e))
kind_same EachData Children e = absurd (omega (arith, e))
kind_same EachData EachChildren e = absurd (omega (arith, e))
kind_same EachData Recursive e = absurd (omega (arith, e))
kind_same EachChildren Data e = absurd (omega (arith, e))
kind_same EachChildren Missing e = absurd (omega (arith, e))
kind_same EachChildren Children e = absurd (omega (arith, e))
kind_same EachChildren EachData e = absurd (omega (arith, e))
kind_same EachChildren Recursive e = absurd (omega (arith, e))
kind_same Recursive Data e = absurd (omega (arith, e))
kind_same Recursive Missing e = absurd (omega (arith, e))
kind_same Recursive Children e = absurd (omega (arith, e))
kind_same Recursive EachData e = absurd (omega (arith, e))
kind_same Recursive EachChildren e = absurd (omega (arith, e))

pub same_place : IsAntisymmetric place_cmp
same_place a b e =
    let parts = then_equal (path_cmp a.path b.path) (nat_cmp (kind_number a.kind) (kind_number b.kind)) e in
    let path = same_path a.path b.path parts.0 in
    let kind = kind_same a.kind b.kind (nat_cmp-IsAntisymmetric _ _ parts.1) in
    λ i. record { path = path i; kind = kind i }

pub same_watch : IsAntisymmetric watch_cmp
same_watch a b e =
    let parts = then_equal (place_cmp (place_of a) (place_of b)) (nat_cmp a.connection b.connection) e in
    let place = same_place (place_of a) (place_of b) parts.0 in
    let connection = nat_cmp-IsAntisymmetric _ _ parts.1 in
    λ i. record { path = (place i).path; kind = (place i).kind; connection = connection i }
