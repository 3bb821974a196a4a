-- A recursive watch covers its path and all below it.
use Rattle.std.proofs.Common.{◌≡◌, ℕ, Bool, true, false, ◌&&◌, List, [], ◌∷◌, refl, ap, ◌∙◌}
use Rattle.std.specs.declared.cmp.Ordering.{Ordering}
use Rattle.std.specs.declared.cmp.Ordering.TheVariants.{Less, Equal, Greater}
use Rattle.std.specs.Ordering.{is_eq, ordering_then}
use Rattle.std.specs.List.{list_any}
use Rattle.std.specs.Str.{bytes_eq}
use Rattle.std.proofs.lemmas.Map.Text.{is_eq-slice_cmp}
use Rattle.zpath.specs.Grammar.{path_cmp, name_cmp}
use Rattle.zjute.specs.declared.event.EventKind.TheVariants as event
use Rattle.zwatches.specs.declared.kind.Kind.TheVariants.{Data, Recursive}
use Rattle.zwatches.specs.Watches.{Path, place, watch}
use Rattle.zwatches.specs.Events.{above, from_root, is_at}
use Rattle.zwatches.specs.Laws.{is_below, CoversBelow}
use Rattle.zwatches.proofs.Reporting.{any_map}

-- an order that is decided otherwise is no tie
not_tied : (r : Ordering) → is_eq (ordering_then r Greater) ≡ false
not_tied Less = refl
not_tied Equal = refl
not_tied Greater = refl

tied_by : (r : Ordering) → is_eq (ordering_then r Equal) ≡ is_eq r
tied_by Less = refl
tied_by Equal = refl
tied_by Greater = refl

both_tied : (r s : Ordering) → is_eq (ordering_then r s) ≡ (is_eq r && is_eq s)
both_tied Less s = refl
both_tied Equal s = refl
both_tied Greater s = refl

any_same : {X : Type 0} (p q : X → Bool) → ((x : X) → p x ≡ q x) → (xs : List X) → list_any p xs ≡ list_any q xs
any_same p q same [] = refl
any_same p q same (x ∷ xs) = rw (same x, any_same p q same xs) refl

any_when : {X : Type 0} (b : Bool) (p : X → Bool) (xs : List X) → list_any (λ x. b && p x) xs ≡ (b && list_any p xs)
any_when true p xs = refl
any_when false p [] = refl
any_when false p (x ∷ xs) = any_when false p xs

-- the second path has the first among those from the root down to it
from_root_is : (top path : Path) → list_any (λ p. is_eq (path_cmp top p)) (from_root path) ≡ is_below top path
from_root_is [] [] = refl
from_root_is [] (name ∷ path) = refl
from_root_is (name ∷ top) [] = refl
from_root_is (name ∷ top) (other ∷ path) =
    any_map (λ p. is_eq (path_cmp (name ∷ top) p)) (λ p. other ∷ p) (from_root path)
    ∙ any_same (λ p. is_eq (path_cmp (name ∷ top) (other ∷ p))) (λ p. bytes_eq name other && is_eq (path_cmp top p))
    (λ p. both_tied (name_cmp name other) (path_cmp top p) ∙ ap (λ b. b && is_eq (path_cmp top p)) (is_eq-slice_cmp name other)) (from_root path)
    ∙ any_when (bytes_eq name other) (λ p. is_eq (path_cmp top p)) (from_root path)
    ∙ ap (λ b. bytes_eq name other && b) (from_root_is top path)

module _ (top path : Path) (connection : ℕ) where
  above_is : list_any (λ at. is_at at (watch top Recursive connection)) (above path) ≡ is_below top path
  above_is =
      any_map (λ at. is_at at (watch top Recursive connection)) (λ p. place p Recursive) (from_root path)
      ∙ any_same (λ p. is_at (place p Recursive) (watch top Recursive connection)) (λ p. is_eq (path_cmp top p)) (λ p. tied_by (path_cmp top p)) (from_root path)
      ∙ from_root_is top path

  -- each other kind is before it, so one equation serves for all of them
  not_other : is_at (place path Data) (watch top Recursive connection) ≡ false
  not_other = not_tied (path_cmp top path)

pub covers_below : CoversBelow
covers_below event.None top path connection = refl
covers_below event.NodeCreated top path connection = rw (not_other top path connection) (above_is top path connection)
covers_below event.NodeDeleted top path connection = rw (not_other top path connection) (above_is top path connection)
covers_below event.NodeDataChanged top path connection = rw (not_other top path connection) (above_is top path connection)
covers_below event.NodeChildrenChanged top path connection = rw (not_other top path connection) refl
covers_below event.DataWatchRemoved top path connection = refl
covers_below event.ChildWatchRemoved top path connection = refl
covers_below event.PersistentWatchRemoved top path connection = refl
