-- The refusals of a create, as they are tested.
use Rattle.std.proofs.Common.{◌≡◌, ℕ, Bool, true, false, List, Some, None, Ok, Err, [], ◌∷◌, refl, sym, ap, ◌∙◌}
use Rattle.std.specs.Prelude.{nat_le}
use Rattle.std.specs.FinMap as finite
use Rattle.zpath.specs.First.{first_that_holds}
use Rattle.ztree.specs.Tree.{Tree, Path, parent_of, has_node, with_node}
use Rattle.zcalls.specs.declared.call.Create.{Create}
use Rattle.zcalls.specs.declared.refusal.Refusal.{Refusal}
use Rattle.zcalls.specs.declared.refusal.Refusal.TheVariants.{NodeExists, Full}
use Rattle.zcalls.specs.declared.change.ChangeReply.TheVariants.{Created}
use Rattle.zops.specs.declared.stop.Stop.{Stop}
use Rattle.zops.specs.declared.stop.Stop.TheVariants.{Refused, Memory}
use Rattle.zcalls.specs.Part.{create_step, create_refusals, made_path, unless_refused, is_root, is_owned, owner_of, term_of, has_no_owner, node_has}
use Rattle.zops.specs.support.Stops.{IsStop, IsFirst}
use Rattle.zops.specs.support.Names.{name_refusals}
use Rattle.zcalls.proofs.Tables.{first_of_both, second_of_both}

pub created-refused : (t : Tree) (client : ℕ) (create : Create) (refusal : Refusal) → first_that_holds (create_refusals t client create) ≡ Some refusal → create_step t client create ≡ Err refusal
unfolding create_step
created-refused t client create refusal e =
    let made = made_path t.nodes create.kind create.path in
    ap (λ o. unless_refused o (with_node t made create.bytes (owner_of create.kind.lifetime) (term_of create.kind.lifetime) create.kind.is_sequential, Created made)) e

pub created-done : (t : Tree) (client : ℕ) (create : Create) → first_that_holds (create_refusals t client create) ≡ None
    → create_step t client create ≡ Ok (with_node t (made_path t.nodes create.kind create.path) create.bytes (owner_of create.kind.lifetime) (term_of create.kind.lifetime) create.kind.is_sequential, Created (made_path t.nodes create.kind create.path))
unfolding create_step
created-done t client create e =
    let made = made_path t.nodes create.kind create.path in
    ap (λ o. unless_refused o (with_node t made create.bytes (owner_of create.kind.lifetime) (term_of create.kind.lifetime) create.kind.is_sequential, Created made)) e

-- the tests of the position of a made path
abbrev place_refusals : Tree → Create → List (Bool × Refusal)
place_refusals t create =
    (has_node t.nodes (made_path t.nodes create.kind create.path), NodeExists) ∷ (nat_le t.limits.nodes (finite.len t.nodes), Full) ∷ []

-- a create whose owner is there, below the root, beneath a node that no session owns
module _ (t : Tree) (client : ℕ) (create : Create) (owned : has_no_owner t.sessions client create.kind.lifetime ≡ false) (root : is_root create.path ≡ false) (there : has_node t.nodes (parent_of create.path) ≡ true) (unowned : node_has is_owned t.nodes (parent_of create.path) ≡ false) where
  pub unnamed : (refusal : Refusal) → first_that_holds (name_refusals t create.kind create.path) ≡ Some refusal → first_that_holds (create_refusals t client create) ≡ Some refusal
  unnamed refusal e = rw (owned, root, there, unowned) (first_of_both (name_refusals t create.kind create.path) (place_refusals t create) refusal e)

  named : first_that_holds (name_refusals t create.kind create.path) ≡ None → first_that_holds (create_refusals t client create) ≡ first_that_holds (place_refusals t create)
  named e = rw (owned, root, there, unowned) (second_of_both (name_refusals t create.kind create.path) (place_refusals t create) e)

  module _ (made : Path) (is_made : made ≡ made_path t.nodes create.kind create.path) (allowed : first_that_holds (name_refusals t create.kind create.path) ≡ None) where
    pub taken : has_node t.nodes made ≡ true → first_that_holds (create_refusals t client create) ≡ Some NodeExists
    taken here = named allowed ∙ rw (sym (ap (has_node t.nodes) is_made) ∙ here) refl

    pub full : has_node t.nodes made ≡ false → nat_le t.limits.nodes (finite.len t.nodes) ≡ true → first_that_holds (create_refusals t client create) ≡ Some Full
    full free many = named allowed ∙ rw (sym (ap (has_node t.nodes) is_made) ∙ free, many) refl

    pub all_clear : has_node t.nodes made ≡ false → nat_le t.limits.nodes (finite.len t.nodes) ≡ false → first_that_holds (create_refusals t client create) ≡ None
    all_clear free few = named allowed ∙ rw (sym (ap (has_node t.nodes) is_made) ∙ free, few) refl

-- where a create finds no name, it is refused for that
pub nameless : (t : Tree) (client : ℕ) (create : Create) → has_no_owner t.sessions client create.kind.lifetime ≡ false → is_root create.path ≡ false → has_node t.nodes (parent_of create.path) ≡ true → node_has is_owned t.nodes (parent_of create.path) ≡ false
    → (stop : Stop) → IsFirst (first_that_holds (name_refusals t create.kind create.path)) stop → IsStop (create_step t client create) stop
nameless t client create owned root there unowned Memory h = tt
nameless t client create owned root there unowned (Refused refusal) h = created-refused t client create refusal (unnamed t client create owned root there unowned refusal h)
