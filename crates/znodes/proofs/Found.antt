-- What the nodes find, from the index and the rows.
use Rattle.std.proofs.Common.{◌≡◌, Option, Some, None, IsSome, refl, sym, ap, subst, ◌∙◌}
use Rattle.std.specs.Prelude.{is_some}
use Rattle.std.specs.Option.{option_map, option_and_then}
use Rattle.std.specs.FinMap as finite
use Rattle.std.specs.FinMap.{get}
use Rattle.zslots.specs.declared.id.Id.{Id}
use Rattle.zslots.specs.SlotsView.{Items}
use Rattle.ztree.specs.declared.node.Node.{Node}
use Rattle.ztree.specs.Tree.{Path, has_node}
use Rattle.ztree.proofs.Sorted.{paths_total}
use Rattle.ztree.proofs.Maps.{none_some, same_some}
use Rattle.znodes.specs.declared.row.Row.{Row}
use Rattle.znodes.specs.support.Rows.{IsLinked, nodes_of, node_at}
use Rattle.znodes.specs.support.OwnerLists.{OwnerLists}
use Rattle.znodes.specs.index.IndexView.{IdsByPath}
use Rattle.zslots.proofs.MapValues.{get-map_values, len-map_values}

-- what is found through an Id
through : {X Y : Type 0} (f : X → Option Y) (o : Option X) (x : X) → o ≡ Some x → option_and_then f o ≡ f x
through f o x e = ap (option_and_then f) e

module _ (m : Items Row) (index : IdsByPath) where
  pub get-nodes : (q : Path) → get (nodes_of m index) q ≡ option_and_then (node_at m) (get index q)
  get-nodes q = get-map_values paths_total _ index q

  pub get-nodes-found : (q : Path) (id : Id) (r : Row) → get index q ≡ Some id → get m id ≡ Some r → get (nodes_of m index) q ≡ Some r.node
  get-nodes-found q id r at is = get-nodes q ∙ through _ (get index q) id at ∙ ap (option_map (λ (r : Row). r.node)) is

  pub get-nodes-none : (q : Path) → get index q ≡ None → get (nodes_of m index) q ≡ None
  get-nodes-none q e = get-nodes q ∙ ap (option_and_then (node_at m)) e

  module _ (owners : OwnerLists) (linked : IsLinked m index owners) where
    -- there is a node where the index has an Id
    pub has_node-index : (q : Path) → has_node (nodes_of m index) q ≡ is_some (get index q)
    has_node-index q = by (get index q) refl
      where
        by : (o : Option Id) → get index q ≡ o → has_node (nodes_of m index) q ≡ is_some o
        by None e = ap is_some (get-nodes-none q e)
        by (Some id) e = let row = linked.named q id e in ap is_some (get-nodes-found q id row.0 e row.1)

    pub len-nodes : finite.len (nodes_of m index) ≡ finite.len index
    len-nodes =
        len-map_values paths_total (node_at m) index (λ q id at.
        subst IsSome (sym (ap (option_map (λ (r : Row). r.node)) (linked.named q id at).1)) refl)

    -- what is found at a path is the node of a live row
    pub found_row : (q : Path) (n : Node) → get (nodes_of m index) q ≡ Some n → (id : Id) × (r : Row) × (get m id ≡ Some r) × (r.path ≡ q) × (r.key ≡ None) × (r.node ≡ n)
    found_row q n e = by (get index q) refl
      where
        by : (o : Option Id) → get index q ≡ o → (id : Id) × (r : Row) × (get m id ≡ Some r) × (r.path ≡ q) × (r.key ≡ None) × (r.node ≡ n)
        by None at = absurd (none_some n (sym (get-nodes-none q at) ∙ e))
        by (Some id) at =
            let row = linked.named q id at in
            (id, row.0, row.1, row.2, row.3, same_some _ _ (sym (get-nodes-found q id row.0 at row.1) ∙ e))

    -- a live row's node is at its path
    pub live_node : (id : Id) (r : Row) → get m id ≡ Some r → r.key ≡ None → get (nodes_of m index) r.path ≡ Some r.node
    live_node id r is live = get-nodes-found r.path id r (linked.found id r is live) is
