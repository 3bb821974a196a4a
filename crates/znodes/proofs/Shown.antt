-- What the nodes show of their rows.
use Rattle.std.proofs.Common.{◌≡◌, ℕ, ◌<◌, Bool, true, false, cond, List, [], length, Option, Some, None, IfSome, IfNone, refl, sym, ap, subst, ◌∙◌}
use Rattle.std.specs.Prelude.{is_some, IsPermutation, IsSorted}
use Rattle.std.specs.Option.{option_map, option_map_or, option_and_then}
use Rattle.std.specs.FinMap.{get}
use Rattle.zslots.specs.declared.id.Id.{Id}
use Rattle.zslots.specs.SlotsView.{Items}
use Rattle.zslots.specs.declared.list.List.{List as IdList}
use Rattle.zslots.specs.Ids.{Ids}
use Rattle.zslots.specs.Lists.{IsList, empty_list}
use Rattle.zslots.proofs.MapValues.{get-map_values}
use Rattle.zslots.proofs.Maps.{id_cmp_total}
use Rattle.zpath.specs.Grammar.{name_cmp}
use Rattle.ztree.specs.Tree.{Name, Path, Nodes, has_node, children, ephemerals}
use Rattle.ztree.proofs.Maps.{none_some, same_some}
use Rattle.znodes.specs.declared.row.Row.{Row}
use Rattle.znodes.specs.declared.nodes.Nodes.TheInside.{Inside}
use Rattle.znodes.specs.NodesView.{NodesView, path_of, node_of}
use Rattle.znodes.specs.support.Rows.{IsLinked, is_live, live_path, sibling_links, children_at, children_of, nodes_of, places_of}
use Rattle.znodes.specs.support.OwnerLists.{list_of}
use Rattle.znodes.specs.support.Fields.{view_of}
use Rattle.znodes.specs.support.Reading.{if_live, live_at, names_at}
use Rattle.znodes.proofs.Keys.{no_key-live, live-no_key}
use Rattle.znodes.proofs.Found.{has_node-index, live_node}
use Rattle.znodes.proofs.Owned.{owned-list, owned-first, owned-none}
use Rattle.znodes.proofs.Siblings.{children-count, children-sorted}

pub if_some : {A : Type 0} (P : A → Type 0) (o : Option A) → ((x : A) → o ≡ Some x → P x) → IfSome o P
if_some P (Some x) h = h x refl
if_some P None h = tt

pub if_none : {A : Type 0} (P : Type 0) (o : Option A) → (o ≡ None → P) → IfNone o P
if_none P (Some x) h = tt
if_none P None h = h refl

-- a row is live where it has no key
pub live_row : (m : Items Row) (id : Id) (r : Row) → get m id ≡ Some r → r.key ≡ None → live_at m id ≡ Some r
live_row m id r is live = ap (option_and_then if_live) is ∙ ap (λ b. cond b (Some r) None) (no_key-live r live)

pub live_parts : (m : Items Row) (id : Id) (r : Row) → live_at m id ≡ Some r → (get m id ≡ Some r) × (r.key ≡ None)
live_parts m id r = by (get m id) refl
  where
    by : (o : Option Row) → get m id ≡ o → option_and_then if_live o ≡ Some r → (get m id ≡ Some r) × (r.key ≡ None)
    by None is e = absurd (none_some r e)
    by (Some x) is e = cases (is_live x) refl e
      where
        cases : (b : Bool) → is_live x ≡ b → cond b (Some x) None ≡ Some r → (get m id ≡ Some r) × (r.key ≡ None)
        cases false live e = absurd (none_some r e)
        cases true live e = let same = same_some x r e in (is ∙ e, ap (λ (y : Row). y.key) (sym same) ∙ live-no_key x live)

-- the path of an Id is that of its live row
places-live : (m : Items Row) (id : Id) → get (places_of m) id ≡ option_map (λ (r : Row). r.path) (live_at m id)
places-live m id = get-map_values id_cmp_total live_path m id ∙ by (get m id)
  where
    by : (o : Option Row) → option_and_then live_path o ≡ option_map (λ (r : Row). r.path) (option_and_then if_live o)
    by None = refl
    by (Some r) = cases (is_live r)
      where
        cases : (b : Bool) → cond b (Some r.path) None ≡ option_map (λ (x : Row). x.path) (cond b (Some r) None)
        cases true = refl
        cases false = refl

module _ (s : Inside) (linked : IsLinked s.slots.items s.index.ids s.owners) (v : NodesView) (shown : view_of s ≡ v) where
  pub path_of-live : (id : Id) (o : Option Row) → live_at s.slots.items id ≡ o → path_of v id ≡ option_map (λ (r : Row). r.path) o
  path_of-live id o is =
      ap (λ (w : NodesView). path_of w id) (sym shown) ∙ places-live s.slots.items id ∙ ap (option_map (λ (r : Row). r.path)) is

  -- an Id has no path but that of its row
  pub path-same : (id : Id) (r : Row) → live_at s.slots.items id ≡ Some r → (path : Path) → path_of v id ≡ Some path → path ≡ r.path
  path-same id r is path e = same_some path r.path (sym e ∙ path_of-live id (Some r) is)

  pub no_path : (id : Id) → live_at s.slots.items id ≡ None → (path : Path) → path_of v id ≡ Some path → ⊥
  no_path id is path e = none_some path (sym (path_of-live id None is) ∙ e)

  pub node_of-live : (id : Id) (o : Option Row) → live_at s.slots.items id ≡ o → node_of v id ≡ option_map (λ (r : Row). r.node) o
  node_of-live id None is = ap (option_and_then (get v.nodes)) (path_of-live id None is)
  node_of-live id (Some r) is =
      let row = live_parts s.slots.items id r is in
      ap (option_and_then (get v.nodes)) (path_of-live id (Some r) is)
      ∙ ap (λ (w : NodesView). get w.nodes r.path) (sym shown)
      ∙ live_node s.slots.items s.index.ids s.owners linked id r row.0 row.1

  pub nodes-shown : nodes_of s.slots.items s.index.ids ≡ v.nodes
  nodes-shown = ap (λ (w : NodesView). w.nodes) shown

  -- the list of the children of a live row's path is its own
  pub own_list : (id : Id) (r : Row) → live_at s.slots.items id ≡ Some r → children_of s.slots.items s.index.ids r.path ≡ r.children
  own_list id r is =
      let row = live_parts s.slots.items id r is in
      ap (λ o. option_map_or (children_at s.slots.items) o empty_list) (linked.found id r row.0 row.1)
      ∙ ap (λ o. option_map_or (λ (x : Row). x.children) o empty_list) row.0

  -- the list of a live row counts its children
  pub count-live : (id : Id) (o : Option Row) → live_at s.slots.items id ≡ o → option_map (λ path. length (children v.nodes path)) (path_of v id) ≡ option_map (λ (r : Row). r.children.len) o
  count-live id None is = ap (option_map (λ path. length (children v.nodes path))) (path_of-live id None is)
  count-live id (Some r) is =
      ap (option_map (λ path. length (children v.nodes path))) (path_of-live id (Some r) is)
      ∙ ap (λ (w : NodesView). Some (length (children w.nodes r.path))) (sym shown)
      ∙ sym (ap Some (ap (λ l. l.len) (sym (own_list id r is)) ∙ children-count s.slots.items s.index.ids s.owners linked r.path))

  -- the list of a live row is one of Ids
  pub own_family : (id : Id) (r : Row) → live_at s.slots.items id ≡ Some r → (ids : Ids) × IsList sibling_links s.slots.items r.children ids
  own_family id r is =
      let family = linked.children r.path in
      (family.0, subst (λ list. IsList sibling_links s.slots.items list family.0) (own_list id r is) family.1)

  -- the names of that list, once sorted, are the children
  pub names-live : (id : Id) (r : Row) → live_at s.slots.items id ≡ Some r → (names sorted : List Name) → ((ids : Ids) → IsList sibling_links s.slots.items r.children ids → names ≡ names_at s.slots.items ids) → IsPermutation names sorted → IsSorted name_cmp sorted → (path : Path) → path_of v id ≡ Some path → sorted ≡ children v.nodes path
  names-live id r is names sorted are moved up path at =
      children-sorted s.slots.items s.index.ids s.owners linked r.path names sorted (λ ids list. are ids (subst (λ l. IsList sibling_links s.slots.items l ids) (own_list id r is) list)) moved up
      ∙ ap (λ (nodes : Nodes). children nodes r.path) nodes-shown
      ∙ ap (children v.nodes) (sym (path-same id r is path at))

  -- what the index finds is live, and there is a node where it finds something
  pub path_of-found : (q : Path) (id : Id) → get s.index.ids q ≡ Some id → path_of v id ≡ Some q
  path_of-found q id at =
      let row = linked.named q id at in
      path_of-live id (Some row.0) (live_row s.slots.items id row.0 row.1 row.3) ∙ ap Some row.2

  pub has_node-found : (q : Path) → is_some (get s.index.ids q) ≡ has_node v.nodes q
  has_node-found q = sym (has_node-index s.slots.items s.index.ids s.owners linked q) ∙ ap (λ (nodes : Nodes). has_node nodes q) nodes-shown

  -- the first that is read of an owner is the Id of a live row of that owner
  pub owned_row : (owner : ℕ) (list : IdList 1) (id : Id) → 0 < owner → list_of s.owners owner ≡ Some list → list.first ≡ Some id → (r : Row) × (live_at s.slots.items id ≡ Some r) × (r.node.owner ≡ owner)
  owned_row owner list id some is first =
      let head = owned-list s.slots.items s.index.ids s.owners linked owner some (Some list) is in
      let row = owned-first s.slots.items s.index.ids s.owners linked owner id (ap (λ l. l.first) head ∙ first) in
      (row.0, live_row s.slots.items id row.0 row.1 row.2, row.3)

  -- where none is read, the owner has no node
  pub no_ephemerals : (owner : ℕ) (o : Option (IdList 1)) → 0 < owner → list_of s.owners owner ≡ o → option_and_then (λ (list : IdList 1). list.first) o ≡ None → ephemerals v.nodes owner ≡ []
  no_ephemerals owner o some is none =
      let head = owned-list s.slots.items s.index.ids s.owners linked owner some o is in
      ap (λ (nodes : Nodes). ephemerals nodes owner) (sym nodes-shown)
      ∙ owned-none s.slots.items s.index.ids s.owners linked owner some (ap (λ l. l.first) head ∙ by o none)
    where
      by : (o : Option (IdList 1)) → option_and_then (λ (list : IdList 1). list.first) o ≡ None → (option_map_or (λ (list : IdList 1). list) o empty_list).first ≡ None
      by None e = refl
      by (Some list) e = e
