use Rattle.std.proofs.Common.{refl, subst}
use Rattle.std.specs.Result.{IfOk}
use Rattle.std.specs.Prelude.{Result, Ok, Err}
use Rattle.znodes.specs.support.OwnerLists.{list_of}
use Rattle.znodes.specs.support.Reading.{AreOwnedPaths}
use Rattle.znodes.proofs.OwnedPaths.{owned-family, owned-some, owned-gone, owned-sorted}
use Rattle.znodes.proofs.nodes.Nodes.owned.Goals as goal

pub owned_paths-requires : goal.owned_paths-requires
owned_paths-requires c = let s = c.self.inside in owned-family s.slots.items s.index.ids s.owners c.self.invariant.linked c.args.owner (list_of s.owners c.args.owner) refl

ifok-map : {A E : Type 0} {P Q : A → Type 0} (r : Result A E) → ((x : A) → P x → Q x) → IfOk r P → IfOk r Q
ifok-map (Ok x) f p = f x p
ifok-map (Err e) f p = tt

pub returns-clause-owned : goal.returns-clause-owned
returns-clause-owned c =
    let s = c.self.inside in
    ifok-map c.owned_paths.result
    (λ paths are some known. owned-sorted s c.self.invariant.linked c.args.self.now c.self.view_is c.args.owner some (list_of s.owners c.args.owner) refl
    (owned-some s c.args.self.now c.self.view_is c.args.owner some known) paths.items are) c.owned_paths.ensures

pub returns-clause-gone : goal.returns-clause-gone
returns-clause-gone c =
    let s = c.self.inside in
    ifok-map c.owned_paths.result
    (λ paths are none. subst (λ o. AreOwnedPaths s.slots.items o paths.items) (owned-gone s c.args.self.now c.self.view_is c.args.owner none) are) c.owned_paths.ensures
