-- A session's end in progress: what holds once some of its nodes are gone, and which Ids still name
-- a node.
use Rattle.std.proofs.Common.{◌≡◌, ℕ, ◌+◌, Bool, true, false, cond, length, Option, Some, None, refl, sym, ap, ◌∙◌, arith}
use Rattle.std.specs.Ordering.{eq_by_cmp}
use Rattle.std.specs.Option.{option_and_then}
use Rattle.std.specs.FinMap as finite
use Rattle.zpath.specs.Grammar.{path_cmp}
use Rattle.ztree.specs.declared.node.Node.{Node}
use Rattle.ztree.specs.Tree.{Tree, Path, Nodes, parent_of, has_node, ephemerals, without_node}
use Rattle.ztree.specs.Sessions.{without_nodes}
use Rattle.ztree.specs.Room.{HasRoomForLosses, HasRoomForEnd}
use Rattle.zstore.specs.StoreView.{StoreView, path_of, while_there, ForgetsGone}
use Rattle.zstore.proofs.order.Any.{any_first}
use Rattle.ztree.proofs.Ending.{HasLost, found-dropped, has_node-dropped}

-- where the same paths have nodes, the same paths are there still
pub while_there_same : (m n : Nodes) → ((q : Path) → has_node m q ≡ has_node n q) →
    (o : Option Path) → option_and_then (while_there m) o ≡ option_and_then (while_there n) o
while_there_same m n same None = refl
while_there_same m n same (Some q) = ap (λ b. cond b (Some q) None) (same q)

-- what is there at last was there between
while_there_twice : (m n : Nodes) → ((q : Path) → has_node n q ≡ true → has_node m q ≡ true) →
    (o : Option Path) →
    option_and_then (while_there n) (option_and_then (while_there m) o) ≡ option_and_then
    (while_there n) o
while_there_twice m n fewer None = refl
while_there_twice m n fewer (Some q) = by (has_node n q) refl
  where
    by : (b : Bool) → has_node n q ≡ b →
        option_and_then (while_there n) (cond (has_node m q) (Some q) None) ≡ cond (has_node n q)
        (Some q) None
    by true e = rw (fewer q e) refl
    by false e = rw e (either (has_node m q))
      where
        either : (b : Bool) → option_and_then (while_there n) (cond b (Some q) None) ≡ None
        either true = rw e refl
        either false = refl

-- one change after the other
forgets_both : (old mid new : StoreView) → ForgetsGone old mid → ForgetsGone mid new →
    ((q : Path) → has_node new.tree.nodes q ≡ true → has_node mid.tree.nodes q ≡ true) →
    ForgetsGone old new
forgets_both old mid new first then fewer id =
    then id ∙ ap (option_and_then (while_there new.tree.nodes)) (first id)
    ∙ while_there_twice mid.tree.nodes new.tree.nodes fewer (path_of old id)

-- what holds while the nodes of a session are taken away
pub record IsUnderWay (old new : StoreView) (id : ℕ) : Type 0 where
  pub rest : without_nodes new.tree (ephemerals new.tree.nodes id) ≡ without_nodes old.tree
      (ephemerals old.tree.nodes id)
  pub sessions : new.tree.sessions ≡ old.tree.sessions
  pub zxid : new.tree.zxid ≡ old.tree.zxid
  pub counters : HasRoomForEnd new.tree id
  pub forgotten : ForgetsGone old new
  pub given : new.given ≡ old.given

module _ (old mid new : StoreView) (id : ℕ) (so_far : IsUnderWay old mid id) where
  -- holds after one node more
  pub under_way_next : (path : Path) (node : Node) → finite.get mid.tree.nodes path ≡ Some node →
      node.owner ≡ id → new.tree ≡ without_node mid.tree path → ForgetsGone mid new →
      new.given ≡ mid.given → IsUnderWay old new id
  under_way_next path node here owner tree gone given =
      let first = any_first mid.tree id path node here owner in
      let fewer_left : length (ephemerals mid.tree.nodes id) ≡ length
      (ephemerals new.tree.nodes id) + 1 = first.1
      ∙ ap (λ (t : Tree). length (ephemerals t.nodes id) + 1) (sym tree) in
      record {
        rest = ap (λ (t : Tree). without_nodes t (ephemerals t.nodes id)) tree ∙ sym first.0
            ∙ so_far.rest;
        sessions = ap (λ (t : Tree). t.sessions) tree ∙ so_far.sessions;
        zxid = ap (λ (t : Tree). t.zxid) tree ∙ so_far.zxid;
        counters = λ q m found owned n is. room fewer_left q m n (before q m found) owned
            (before (parent_of q) n is);
        forgotten =
            forgets_both old mid new so_far.forgotten gone
            (λ q there. fewer q (eq_by_cmp path_cmp q path) refl there);
        given = given ∙ so_far.given;
      }
    where
      before : (q : Path) (m : Node) → finite.get new.tree.nodes q ≡ Some m →
          (n : Node) × (finite.get mid.tree.nodes q ≡ Some n) × HasLost 1 n m
      before q m found =
          found-dropped mid.tree path q m
          (sym (ap (λ (t : Tree). finite.get t.nodes q) tree) ∙ found)

      room : length (ephemerals mid.tree.nodes id) ≡ length (ephemerals new.tree.nodes id) + 1 →
          (q : Path) (m n : Node) →
          ((l : Node) × (finite.get mid.tree.nodes q ≡ Some l) × HasLost 1 l m) → m.owner ≡ id →
          ((l : Node) × (finite.get mid.tree.nodes (parent_of q) ≡ Some l) × HasLost 1 l n) →
          HasRoomForLosses (length (ephemerals new.tree.nodes id)) n
      room many q m n was owned above =
          let owner = sym (ap (λ (x : Node). x.owner) was.2.same) ∙ owned in
          let had = so_far.counters q was.0 was.1 owner above.0 above.1 in
          let bound = above.2.bound in
          omega (arith, had, many, bound)

      fewer : (q : Path) (b : Bool) → eq_by_cmp path_cmp q path ≡ b →
          has_node new.tree.nodes q ≡ true → has_node mid.tree.nodes q ≡ true
      fewer q b e there =
          by b (ap (λ t. cond t false (has_node mid.tree.nodes q)) (sym e)
          ∙ sym (has_node-dropped mid.tree path q)
          ∙ sym (ap (λ (t : Tree). has_node t.nodes q) tree) ∙ there)
        where
          by : (b : Bool) → cond b false (has_node mid.tree.nodes q) ≡ true →
              has_node mid.tree.nodes q ≡ true
          by true is = cc
          by false is = is
