use Rattle.std.proofs.Common.{◌≡◌, ◌+◌, refl, Bool, true, false, cond, Option, Some, None, sym, ap, ◌∙◌}
use Rattle.std.specs.Option.{option_and_then}
use Rattle.std.specs.FinMap as finite
use Rattle.zslots.specs.Ids.{id_cmp}
use Rattle.std.specs.FinMap.{FinMap, get-remove}
use Rattle.ztree.specs.Tree.{Tree, Path, parent_of, has_node, without_child}
use Rattle.ztree.proofs.Nodes.{parent_is_other}
use Rattle.zstore.specs.StoreView.{path_of, mark_left}
use Rattle.zstore.specs.support.Parts.{without_child_at}
use Rattle.zstore.proofs.ids.Naming.{not_forgotten, path_there, mark_left_twice}
use Rattle.ztree.proofs.Ending.{has_node-changed}
use Rattle.zstore.proofs.ids.UnderWay.{while_there_same}
use Rattle.ztree.proofs.Sorted.{paths_total}
use Rattle.zstore.proofs.store.Store.drop_leaf.Goals as goal

kept : {A : Type 0} (t : Bool) (o : Option A) (x : A) → cond t None o ≡ Some x → o ≡ Some x
kept true o x e = cc
kept false o x e = e

pub child_gone-requires-clause-live : goal.child_gone-requires-clause-live
child_gone-requires-clause-live c =
    let there = path_there _ c.requires.live in
    rw (not_forgotten c.args.self.now c.take.new.self c.args.id c.parent_id-parent.result there.0
    (parent_of there.0) c.take.ensures.forgotten there.1
    (c.parent_id-parent.ensures there.0 there.1)
    (parent_is_other there.0 (c.requires.below_root there.0 there.1))) refl

pub child_gone-requires-clause-counters : goal.child_gone-requires-clause-counters
child_gone-requires-clause-counters c = λ n is.
    let there = path_there _ c.requires.live in
    let path = there.0 in
    let above = parent_of path in
    let got = sym (get-remove paths_total c.args.self.now.tree.nodes path above)
    ∙ sym (ap (λ (t : Tree). finite.get t.nodes above) (c.take.ensures.tree path there.1))
    ∙ sym (ap (option_and_then (finite.get c.take.new.self.tree.nodes))
    (not_forgotten c.args.self.now c.take.new.self c.args.id c.parent_id-parent.result path
    (parent_of path) c.take.ensures.forgotten there.1 (c.parent_id-parent.ensures path there.1)
    (parent_is_other path (c.requires.below_root path there.1)))) ∙ is in
    c.requires.counters path there.1 n (kept _ _ n got)

pub returns-clause-tree : goal.returns-clause-tree
returns-clause-tree c = λ path named. c.child_gone.ensures.tree (parent_of path)
    (not_forgotten c.args.self.now c.take.new.self c.args.id c.parent_id-parent.result path
    (parent_of path) c.take.ensures.forgotten named (c.parent_id-parent.ensures path named)
    (parent_is_other path (c.requires.below_root path named)))
    ∙ ap (λ t. without_child_at t (parent_of path)) (c.take.ensures.tree path named)

pub returns-clause-marked : goal.returns-clause-marked
returns-clause-marked c = c.child_gone.ensures.marked ∙ ap (λ m. mark_left 1 m) c.take.ensures.marked
    ∙ mark_left_twice c.args.self.now.marked

pub returns-clause-gone : goal.returns-clause-gone
returns-clause-gone c = λ id.
    let there = path_there _ c.requires.live in
    let left = c.take.new.self.tree.nodes in
    let above = parent_of there.0 in
    let marks =
    c.child_gone.ensures.tree above
    (not_forgotten c.args.self.now c.take.new.self c.args.id c.parent_id-parent.result there.0
    (parent_of there.0) c.take.ensures.forgotten there.1
    (c.parent_id-parent.ensures there.0 there.1)
    (parent_is_other there.0 (c.requires.below_root there.0 there.1))) in
    let same : (q : Path) → has_node left q ≡ has_node c.child_gone.new.self.tree.nodes q =
    λ q. sym (ap (λ (t : Tree). has_node t.nodes q) marks
    ∙ has_node-changed left above (without_child (c.take.new.self.tree.zxid + 1)) q) in
    ap (λ (places : FinMap id_cmp Path). finite.get places id) c.child_gone.ensures.same.0
    ∙ c.take.ensures.gone id
    ∙ while_there_same left c.child_gone.new.self.tree.nodes same (path_of c.args.self.now id)
