-- What is known of rows whose lists are in order.
use Rattle.std.proofs.Common.{◌≡◌, ◌≢◌, ◌⊎◌, inl, inr, ℕ, ◌<◌, true, false, cond, [], ◌∷◌, length, Option, Some, None, IsSome, refl, sym, ap, ◌∙◌, arith}
use mathlib.Core.Path.{subst}
use Rattle.std.specs.Option.{option_map, option_map_or, option_and_then}
use Rattle.std.specs.FinMap.{get}
use Rattle.zslots.specs.declared.id.Id.{Id}
use Rattle.zslots.specs.declared.linked.Links.{Links}
use Rattle.zslots.specs.declared.list.List.{List as IdList}
use Rattle.zslots.specs.SlotsView.{Items}
use Rattle.zslots.specs.Ids.{Ids, IsIn}
use Rattle.zslots.specs.Lists.{IsList, empty_list}
use Rattle.zslots.specs.Families.{IsFamily, key_at}
use Rattle.zslots.proofs.Maps.{is_none}
use Rattle.zslots.proofs.Items.{some_there}
use Rattle.zslots.proofs.Families.{family-first}
use Rattle.znodes.specs.index.IndexView.{IdsByPath}
use Rattle.ztree.specs.Tree.{Path, parent_of, has_node, children}
use Rattle.ztree.proofs.Maps.{same_some, has_some}
use Rattle.ztree.proofs.Children.{children_gone}
use Rattle.znodes.specs.declared.row.Row.{Row}
use Rattle.znodes.specs.declared.nodes.Nodes.TheInside.{Inside}
use Rattle.znodes.specs.NodesView.{NodesView, Taken, CanReturn, path_of, node_of}
use Rattle.znodes.specs.support.OwnerLists.{OwnerLists, somebody, list_of}
use Rattle.znodes.specs.support.Rows.{Key, IsLinked, above, parent_key, live_path, taken_row, node_at, nodes_of, places_of, held_of, children_at, children_of, owned_by, owner_key, sibling_links, fellow_links}
use Rattle.znodes.specs.support.Fields.{view_of}
use Rattle.znodes.proofs.OwnerMaps.{somebody-same}
use Rattle.znodes.proofs.Views.{get-nodes, get-places, get-held, get-known}
use Rattle.znodes.proofs.Found.{has_node-index}

-- what follows from an answer of the tests of a key
pub live_key : {X : Type 0} (k : Option Key) (o : Option X) (x : X) → cond (option_map_or (λ (_ : Key). false) k true) o None ≡ Some x → (k ≡ None) × (o ≡ Some x)
live_key None o x e = (refl, e)
live_key (Some key) o x e = cc

if_taken : {X : Type 0} (k : Option Key) (o : Option X) (x : X) → cond (option_map_or (λ (_ : Key). false) k true) None o ≡ Some x → (key : Key) × (k ≡ Some key) × (o ≡ Some x)
if_taken None o x e = cc
if_taken (Some key) o x e = (key, refl, e)

pub above-path : (path : Path) → path ≢ [] → above path ≡ Some (parent_of path)
above-path [] below = absurd (below refl)
above-path (n ∷ path) below = refl

pub path-above : (path k : Path) → above path ≡ Some k → (path ≢ []) × (parent_of path ≡ k)
path-above [] k e = cc
path-above (n ∷ path) k e = (λ f. cc, same_some _ _ e)

pub and-then : {A X : Type 0} (f : A → Option X) (o : Option A) (x : X) → option_and_then f o ≡ Some x → (a : A) × (o ≡ Some a) × (f a ≡ Some x)
and-then f None x e = cc
and-then f (Some a) x e = (a, refl, e)

-- a list of no Ids
pub list-of-none : {L : ℕ} {T : Type 0} (links : T → Links) (m : Items T) (list : IdList L) → IsList links m list [] → list ≡ empty_list
list-of-none links m list is = λ i. record { first = is.chain i; len = is.count i }

-- a list with an item counts it
pub family-filled : {L : ℕ} {T K : Type 0} (links : T → Links) (m : Items T) (key : Id → Option K) (list : IdList L) (k : K) → IsFamily links m key list k → (q : Id) → key q ≡ Some k → 0 < list.len
family-filled links m key list k is q e = by is.0 is.1.count ((is.2 q).1 e)
  where
    by : (ids : Ids) → list.len ≡ length ids → IsIn q ids → 0 < list.len
    by [] count has = absurd has
    by (id ∷ ids) count has = omega (arith, count)

module _ (m : Items Row) where
  -- the row of a live Id, and of one that was taken away
  pub live-row : (id : Id) (path : Path) → get (places_of m) id ≡ Some path → (r : Row) × (get m id ≡ Some r) × (r.path ≡ path) × (r.key ≡ None)
  live-row id path e =
      let found = and-then live_path (get m id) path (sym (get-places m id) ∙ e) in
      let parts = live_key found.0.key (Some found.0.path) path found.2 in
      (found.0, found.1, same_some _ _ parts.1, parts.0)

  pub taken-row : (id : Id) (t : Taken) → get (held_of m) id ≡ Some t → (r : Row) × (get m id ≡ Some r) × (r.path ≡ t.0) × (r.node ≡ t.1) × (key : Key) × (r.key ≡ Some key)
  taken-row id t e =
      let found = and-then taken_row (get m id) t (sym (get-held m id) ∙ e) in
      let parts = if_taken found.0.key (Some (found.0.path, found.0.node)) t found.2 in
      let same = same_some _ _ parts.2 in
      (found.0, found.1, ap (λ (u : Taken). u.0) same, ap (λ (u : Taken). u.1) same, parts.0, parts.1)

  -- a row in a list of children
  pub child-row : (id : Id) (k : Path) → key_at parent_key m id ≡ Some k → (r : Row) × (get m id ≡ Some r) × (r.key ≡ None) × (r.path ≢ []) × (parent_of r.path ≡ k)
  child-row id k e =
      let found = and-then parent_key (get m id) k e in
      let parts = live_key found.0.key (above found.0.path) k found.2 in
      let way = path-above found.0.path k parts.1 in
      (found.0, found.1, parts.0, way.0, way.1)

  -- a row in an owner's list
  pub owner-row : (id : Id) (owner : ℕ) → key_at owner_key m id ≡ Some owner → (r : Row) × (get m id ≡ Some r) × (r.key ≡ None) × (r.node.owner ≡ owner)
  owner-row id owner e =
      let found = and-then owner_key (get m id) owner e in
      let parts = live_key found.0.key (somebody found.0.node.owner) owner found.2 in
      (found.0, found.1, parts.0, somebody-same found.0.node.owner owner parts.1)

  pub key-of-live : (id : Id) (r : Row) → get m id ≡ Some r → r.key ≡ None → r.path ≢ [] → key_at parent_key m id ≡ Some (parent_of r.path)
  key-of-live id r e live below =
      ap (option_and_then parent_key) e ∙ ap (λ (k : Option Key). cond (option_map_or (λ (_ : Key). false) k true) (above r.path) None) live ∙ above-path r.path below

module _ (m : Items Row) (ids : IdsByPath) (owners : OwnerLists) (kept : IsLinked m ids owners) where
  -- the node of a live row is in the tree
  pub node-shown : (id : Id) (r : Row) → get m id ≡ Some r → r.key ≡ None → get (nodes_of m ids) r.path ≡ Some r.node
  node-shown id r e live =
      get-nodes m ids r.path ∙ ap (option_and_then (node_at m)) (kept.found id r e live) ∙ ap (option_map (λ (x : Row). x.node)) e

  -- a path's Id is no other path's
  pub only-path : (p q : Path) (id : Id) → get ids p ≡ Some id → get ids q ≡ Some id → p ≡ q
  only-path p q id e f =
      let a = kept.named p id e in
      let b = kept.named q id f in
      sym a.2 ∙ ap (λ (r : Row). r.path) (same_some a.0 b.0 (sym a.1 ∙ b.1)) ∙ b.2

  -- the index and the live rows name each other
  pub named-by : (p : Id) (path : Path) → get (places_of m) p ≡ Some path → get ids path ≡ Some p
  named-by p path e =
      let row = live-row m p path e in
      ap (get ids) (sym row.2) ∙ kept.found p row.0 row.1 row.3

  -- the list of a leaf
  pub leaf-list : (path : Path) → path ≢ [] → children (nodes_of m ids) path ≡ [] → children_of m ids path ≡ empty_list
  leaf-list path below leaf = by (kept.children path).0 (kept.children path).1 (λ q has. ((kept.children path).2 q).0 has)
    where
      by : (members : Ids) → IsList sibling_links m (children_of m ids path) members → ((q : Id) → IsIn q members → key_at parent_key m q ≡ Some path) → children_of m ids path ≡ empty_list
      by [] is keys = list-of-none sibling_links m (children_of m ids path) is
      by (id ∷ more) is keys =
          let child = child-row m id path (keys id (inl refl)) in
          absurd (children_gone (nodes_of m ids) path child.0.path child.0.node below leaf (node-shown id child.0 child.1 child.2) child.4)

  -- the node above a live one is there
  pub parent-there : (id : Id) (k : Path) → key_at parent_key m id ≡ Some k → (p : Id) × (get ids k ≡ Some p)
  parent-there id k e = by (get ids k) refl
    where
      by : (o : Option Id) → get ids k ≡ o → (p : Id) × (o ≡ Some p)
      by (Some p) is = (p, refl)
      by None is =
          absurd (family-first {L = 0} sibling_links m (key_at parent_key m) (children_of m ids k) k (kept.children k) (ap (λ (o : Option Id). (option_map_or (children_at m) o empty_list).first) is) id e)

  pub children-are : (k : Path) (p : Id) (xp : Row) → get ids k ≡ Some p → get m p ≡ Some xp → children_of m ids k ≡ xp.children
  children-are k p xp e is =
      ap (λ o. option_map_or (children_at m) o empty_list) e ∙ ap (λ o. option_map_or (λ (r : Row). r.children) o empty_list) is

  -- the list of a live row's owner: there is none where no one owns it
  pub owner-list : (id : Id) (r : Row) → get m id ≡ Some r → r.key ≡ None → ((list_of owners r.node.owner ≡ None) × (key_at owner_key m id ≡ None)) ⊎ ((list : IdList 1) × (list_of owners r.node.owner ≡ Some list) × (get owners r.node.owner ≡ Some list) × (key_at owner_key m id ≡ Some r.node.owner))
  owner-list id r e live = by (somebody r.node.owner) refl
    where
      owner : ℕ
      owner = r.node.owner

      its : key_at owner_key m id ≡ somebody owner
      its = ap (option_and_then owner_key) e ∙ ap (λ (k : Option Key). cond (option_map_or (λ (_ : Key). false) k true) (somebody owner) None) live

      found : (o : ℕ) → somebody owner ≡ Some o → (l : Option (IdList 1)) → get owners o ≡ l → ((list_of owners owner ≡ None) × (key_at owner_key m id ≡ None)) ⊎ ((list : IdList 1) × (list_of owners owner ≡ Some list) × (get owners owner ≡ Some list) × (key_at owner_key m id ≡ Some owner))
      found o is None none =
          absurd (family-first {L = 1} fellow_links m (key_at owner_key m) (owned_by owners o) o (kept.owned o) (ap (λ (l : Option (IdList 1)). (option_map_or (λ (list : IdList 1). list) l empty_list).first) none) id (its ∙ is))
      found o is (Some list) has =
          let same = somebody-same owner o is in
          inr (list, ap (option_and_then (get owners)) is ∙ has, ap (get owners) same ∙ has, its ∙ is ∙ ap Some (sym same))

      by : (o : Option ℕ) → somebody owner ≡ o → ((list_of owners owner ≡ None) × (key_at owner_key m id ≡ None)) ⊎ ((list : IdList 1) × (list_of owners owner ≡ Some list) × (get owners owner ≡ Some list) × (key_at owner_key m id ≡ Some owner))
      by None is = inl (ap (option_and_then (get owners)) is, its ∙ is)
      by (Some o) is = found o is (get owners o) refl

  pub owned-are : (owner : ℕ) (list : IdList 1) → get owners owner ≡ Some list → owned_by owners owner ≡ list
  owned-are owner list e = ap (λ l. option_map_or (λ (list : IdList 1). list) l empty_list) e

-- the row of an Id that has a path
pub shown-row : (s : Inside) (v : NodesView) → view_of s ≡ v → (id : Id) (r : Row) → IsSome (path_of v id) → get s.slots.items id ≡ Some r → (r.key ≡ None) × (path_of v id ≡ Some r.path)
shown-row s v view id r some e =
    let path = some_there (path_of v id) some in
    let row = live-row s.slots.items id path.0 (ap (λ w. path_of w id) view ∙ path.1) in
    let same = same_some row.0 r (sym row.1 ∙ e) in
    (ap (λ (x : Row). x.key) (sym same) ∙ row.3, path.1 ∙ ap Some (sym row.2 ∙ ap (λ (x : Row). x.path) same))

-- an Id that has a path has a row
pub live-shown : (s : Inside) (v : NodesView) → view_of s ≡ v → (id : Id) → IsSome (path_of v id) → (r : Row) × (get s.slots.items id ≡ Some r) × (r.key ≡ None) × (path_of v id ≡ Some r.path)
live-shown s v view id some =
    let path = some_there (path_of v id) some in
    let row = live-row s.slots.items id path.0 (ap (λ w. path_of w id) view ∙ path.1) in
    (row.0, row.1, row.3, path.1 ∙ ap Some (sym row.2))

-- and its node is the one that is shown
pub node-is : (s : Inside) (v : NodesView) → view_of s ≡ v → IsLinked s.slots.items s.index.ids s.owners → (id : Id) (r : Row) → get s.slots.items id ≡ Some r → r.key ≡ None → path_of v id ≡ Some r.path → node_of v id ≡ Some r.node
node-is s v view kept id r e live path =
    ap (option_and_then (get v.nodes)) path ∙ ap (λ (w : NodesView). get w.nodes r.path) (sym view) ∙ node-shown s.slots.items s.index.ids s.owners kept id r e live

-- the row of an Id under which a node was taken away
pub shown-taken : (s : Inside) (v : NodesView) → view_of s ≡ v → (id : Id) (r : Row) → IsSome (get v.held id) → get s.slots.items id ≡ Some r → (key : Key) × (r.key ≡ Some key) × (get v.held id ≡ Some (r.path, r.node))
shown-taken s v view id r some e =
    let t = some_there (get v.held id) some in
    let row = taken-row s.slots.items id t.0 (ap (λ (w : NodesView). get w.held id) view ∙ t.1) in
    let same = same_some row.0 r (sym row.1 ∙ e) in
    let path = sym row.2 ∙ ap (λ (x : Row). x.path) same in
    let node = sym row.3 ∙ ap (λ (x : Row). x.node) same in
    (row.4, ap (λ (x : Row). x.key) (sym same) ∙ row.5, t.1 ∙ (λ i. Some (path i, node i)))

-- where it can come back, its path is free in the index, the path above isn't, and its owner has a list
pub can-return : (s : Inside) (v : NodesView) → view_of s ≡ v → IsLinked s.slots.items s.index.ids s.owners → (r : Row) → CanReturn v (r.path, r.node) → (get s.index.ids r.path ≡ None) × ((p : Id) × (get s.index.ids (parent_of r.path) ≡ Some p)) × ((r.node.owner ≡ 0) ⊎ IsSome (get s.owners r.node.owner))
can-return s v view kept r fits = (
  is_none (get s.index.ids r.path) (sym (has_node-index s.slots.items s.index.ids s.owners kept r.path) ∙ ap (λ (w : NodesView). has_node w.nodes r.path) view ∙ fits.free),
  has_some (get s.index.ids (parent_of r.path)) (sym (has_node-index s.slots.items s.index.ids s.owners kept (parent_of r.path)) ∙ ap (λ (w : NodesView). has_node w.nodes (parent_of r.path)) view ∙ fits.parent),
  by fits.owner,
)
  where
    listed_owner : (o : Option (IdList 1)) → IsSome (option_and_then (λ (_ : IdList 1). Some (tt {0})) o) → IsSome o
    listed_owner (Some list) some = refl
    listed_owner None some = some

    by : (r.node.owner ≡ 0) ⊎ IsSome (get v.owners r.node.owner) → (r.node.owner ≡ 0) ⊎ IsSome (get s.owners r.node.owner)
    by (inl nobody) = inl nobody
    by (inr some) = inr (listed_owner (get s.owners r.node.owner) (subst IsSome (ap (λ (w : NodesView). get w.owners r.node.owner) (sym view) ∙ get-known s.owners r.node.owner) some))

-- the index names an Id that has a path
pub parent-named : (s : Inside) (v : NodesView) → view_of s ≡ v → IsLinked s.slots.items s.index.ids s.owners → (p : Id) (path : Path) → path_of v p ≡ Some path → get s.index.ids path ≡ Some p
parent-named s v view kept p path e = named-by s.slots.items s.index.ids s.owners kept p path (ap (λ w. path_of w p) view ∙ e)
