-- On owners, and the map of their lists.
use Rattle.std.proofs.Common.{◌≡◌, ◌≢◌, ◌==◌, ℕ, Bool, true, false, cond, Option, Some, None, refl, ap, ◌∙◌}
use Rattle.std.specs.Option.{option_and_then}
use Rattle.std.specs.FinMap.{get}
use Rattle.std.proofs.lemmas.Bool.{eqb-true, false_from_ne_true}
use Rattle.zslots.specs.declared.list.List.{List as IdList}
use Rattle.znodes.specs.support.OwnerLists.{OwnerLists, somebody, list_of}

-- owner 0 is no one
pub nobody_is_none : (owner : ℕ) → owner ≡ 0 → somebody owner ≡ None
nobody_is_none owner e = ap somebody e

pub is_somebody : (owner : ℕ) → owner ≢ 0 → somebody owner ≡ Some owner
is_somebody owner e =
    let other : (owner == 0) ≡ false = false_from_ne_true _ (λ t. e (eqb-true owner 0 t)) in
    ap (λ b. cond b None (Some owner)) other

pub somebody-same : (owner o : ℕ) → somebody owner ≡ Some o → owner ≡ o
somebody-same owner o e = by (owner == 0) e
  where
    by : (t : Bool) → cond t None (Some owner) ≡ Some o → owner ≡ o
    by true is = cc
    by false is = cc

-- an owner's list is under the owner
pub listed : (owners : OwnerLists) (owner : ℕ) (list : IdList 1) → list_of owners owner ≡ Some list → get owners owner ≡ Some list
listed owners owner list e = by (somebody owner) refl e
  where
    by : (o : Option ℕ) → somebody owner ≡ o → option_and_then (get owners) o ≡ Some list → get owners owner ≡ Some list
    by None is has = cc
    by (Some o) is has = ap (get owners) (somebody-same owner o is) ∙ has
