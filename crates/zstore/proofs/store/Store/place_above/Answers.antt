use Rattle.std.proofs.Common.{◌≡◌, Some, ap, sym, subst, ◌∙◌}
use Rattle.std.specs.Prelude.{IfSome}
use Rattle.ztree.specs.Tree.{parent_of}
use Rattle.ztree.proofs.Nodes.{parent_of-front}
use Rattle.zstore.specs.StoreView.{path_of}
use Rattle.zstore.proofs.parts.Restored.{none_above}
use Rattle.zstore.proofs.store.Store.place_above.Goals as goal

pub returns-clause-found : goal.returns-clause-found
returns-clause-found c =
    let last = rw c.in-Some.is at c.in_ok-above.ensures.front in
    let parent = ap parent_of last.1 ∙ parent_of-front c.in-Some.above last.0 in
    subst (λ p. IfSome c.find-found.result (λ id. path_of c.args.self.now id ≡ Some p)) (sym parent)
    c.find-found.ensures.found

pub returns-clause-none : goal.returns-clause-none
returns-clause-none c =
    let last = rw c.in-Some.is at c.in_ok-above.ensures.front in
    let parent = ap parent_of last.1 ∙ parent_of-front c.in-Some.above last.0 in
    none_above c.find-found.result c.args.self.now.tree.nodes c.args.path.now c.in-Some.above parent
    c.find-found.ensures.node
