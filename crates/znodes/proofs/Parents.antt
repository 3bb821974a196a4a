-- The node above that each live row names: what each call leaves of it.
use Rattle.std.proofs.Common.{◌≡◌, ◌≢◌, ◌⊎◌, inl, inr, [], ◌∷◌, Option, Some, None, refl, sym, ap, ◌∙◌}
use Rattle.std.specs.Option.{option_map, option_and_then}
use Rattle.std.specs.FinMap.{get}
use Rattle.zslots.specs.declared.id.Id.{Id}
use Rattle.zslots.specs.declared.list.List.{List as IdList}
use Rattle.zslots.specs.SlotsView.{Items}
use Rattle.zslots.specs.Families.{key_at}
use Rattle.zslots.proofs.Families.{families-kept}
use Rattle.zslots.proofs.Maps.{same_or_other}
use Rattle.znodes.specs.index.IndexView.{IdsByPath}
use Rattle.ztree.specs.declared.node.Node.{Node}
use Rattle.ztree.specs.Tree.{Path, parent_of, children}
use Rattle.ztree.specs.Stale.{may_end}
use Rattle.ztree.proofs.Maps as maps
use Rattle.ztree.proofs.Sorted.{paths_total, same_path}
use Rattle.ztree.proofs.Nodes.{parent_is_other}
use Rattle.ztree.proofs.Children.{children_gone}
use Rattle.znodes.specs.declared.row.Row.{Row}
use Rattle.znodes.specs.declared.nodes.Nodes.TheInside.{Inside}
use Rattle.znodes.specs.NodesView.{NodesView, path_of, AtPath, IsUnder}
use Rattle.znodes.specs.support.Fields.{view_of}
use Rattle.znodes.specs.support.Reading.{live_at}
use Rattle.znodes.specs.support.OwnerLists.{OwnerLists, list_of}
use Rattle.znodes.specs.support.Rows.{Key, IsLinked, HasTimed, NamesParents, above, timed_key, timed_links, sibling_links, fellow_links, nodes_of}
use Rattle.znodes.specs.support.Linking.{with_parent, with_timed, without_timed, with_node_at}
use Rattle.znodes.proofs.Faces.{face, by-face, part-there, at-here, at-elsewhere, at-kept, child-kept, unchild-kept, owned-kept, unowned-kept}
use Rattle.znodes.proofs.Linked.{and-then, above-path, path-above, node-shown, key-of-live, parent-there}
use Rattle.znodes.proofs.Mortal.{timed_face, linked-same, timed-kept, untimed-kept}
use Rattle.znodes.proofs.Shown.{live_parts, path-same, path_of-found}
use Rattle.znodes.proofs.Away as out
use Rattle.znodes.proofs.Back as back

-- what is known of a row here: where it is, whether it is in the tree, and the node above it
abbrev Kin : Type 0
Kin = Path × (Option Key × Option Id)

abbrev kin : Row → Kin
kin r = (r.path, (r.key, r.parent))

-- a row of which the same is known names the node above, where that is found as it was
kin-named : (ids later : IdsByPath) (y x : Row) → kin y ≡ kin x → y.parent ≡ option_and_then (get ids) (above y.path) → ((k : Path) → above y.path ≡ Some k → get later k ≡ get ids k) → x.parent ≡ option_and_then (get later) (above x.path)
kin-named ids later y x same named found =
    ap (λ (k : Kin). k.1.1) (sym same) ∙ named ∙ sym (by (above y.path) found) ∙ ap (λ (k : Kin). option_and_then (get later) (above k.0)) same
  where
    by : (o : Option Path) → ((k : Path) → o ≡ Some k → get later k ≡ get ids k) → option_and_then (get later) o ≡ option_and_then (get ids) o
    by None alike = refl
    by (Some k) alike = alike k refl

-- nodes are written
pub parents-written : (m : Items Row) (ids : IdsByPath) (id : Id) (f : Node → Node) → NamesParents m ids → NamesParents (with_node_at m id f) ids
parents-written m ids id f named i x e live =
    let y = part-there kin (get m i) (get (with_node_at m id f) i) x (sym (at-kept m id (λ r. record r { node = f r.node }) kin (λ _. refl) i)) e in
    kin-named ids ids y.0 x y.2 (named i y.0 y.1 (ap (λ (k : Kin). k.1.0) y.2 ∙ live)) (λ _ _. refl)

-- a row that isn't in the tree comes or goes
pub parents-aside : (m n : Items Row) (ids : IdsByPath) (id : Id) → ((q : Id) → q ≢ id → get n q ≡ get m q) → ((x : Row) → get n id ≡ Some x → x.key ≢ None) → NamesParents m ids → NamesParents n ids
parents-aside m n ids id elsewhere still named i x e live = by (same_or_other i id)
  where
    by : (i ≡ id) ⊎ (i ≢ id) → x.parent ≡ option_and_then (get ids) (above x.path)
    by (inl is) = absurd (still x (ap (get n) (sym is) ∙ e) live)
    by (inr other) = named i x (sym (elsewhere i other) ∙ e) live

-- a live row below the root names the Id at the path above
pub parent-of-live : (m : Items Row) (ids : IdsByPath) → NamesParents m ids → (id : Id) (r : Row) → get m id ≡ Some r → r.key ≡ None → r.path ≢ [] → r.parent ≡ get ids (parent_of r.path)
parent-of-live m ids named id r e live below = named id r e live ∙ ap (option_and_then (get ids)) (above-path r.path below)

-- a live leaf is taken away
module _ (m : Items Row) (ids : IdsByPath) (owners : OwnerLists) (id : Id) (r : Row) (key : Key) (kept : IsLinked m ids owners)
    (there : get m id ≡ Some r) (below : r.path ≢ []) (leaf : children (nodes_of m ids) r.path ≡ []) (named : NamesParents m ids) where
  abbrev gone : Items Row
  gone = without_timed (out.away m ids owners id r key) (may_end r.node.term) id

  gone-elsewhere : (q : Id) → q ≢ id → option_map kin (get gone q) ≡ option_map kin (get m q)
  gone-elsewhere q other =
      untimed-kept kin (λ _ _. refl) (out.away m ids owners id r key) (may_end r.node.term) id q
      ∙ ap (option_map kin) (at-elsewhere _ id (λ x. record x { key = Some key }) q other)
      ∙ unowned-kept kin (λ _ _. refl) (out.cut m ids owners id r key) (list_of owners r.node.owner) id q
      ∙ unchild-kept kin (λ _ _. refl) (λ _ _. refl) m (get ids (parent_of r.path)) id q

  gone-here : option_map face (get gone id) ≡ Some (out.after m ids owners id r key)
  gone-here =
      untimed-kept face (λ _ _. refl) (out.away m ids owners id r key) (may_end r.node.term) id id
      ∙ out.face-here m ids owners id r key there (list_of owners r.node.owner)

  pub parents-away : NamesParents gone (out.fewer m ids owners id r key)
  parents-away i x e live = by (same_or_other i id)
    where
      by : (i ≡ id) ⊎ (i ≢ id) → x.parent ≡ option_and_then (get (out.fewer m ids owners id r key)) (above x.path)
      by (inl is) =
          let same = maps.same_some (face x) (out.after m ids owners id r key) (sym (ap (option_map face) (ap (get gone) (sym is) ∙ e)) ∙ gone-here) in
          absurd (maps.none_some key (sym live ∙ ap (λ f. f.1.1) same))
      by (inr other) =
          let y = part-there kin (get m i) (get gone i) x (sym (gone-elsewhere i other)) e in
          let lives = ap (λ (k : Kin). k.1.0) y.2 ∙ live in
          let others = λ (k : Path) (a : above y.0.path ≡ Some k).
          maps.get-remove-elsewhere paths_total same_path ids r.path k (λ is.
          children_gone (nodes_of m ids) r.path y.0.path y.0.node below leaf (node-shown m ids owners kept i y.0 y.1 lives) ((path-above y.0.path k a).1 ∙ is)) in
          kin-named ids (out.fewer m ids owners id r key) y.0 x y.2 (named i y.0 y.1 lives) others

-- a row that was taken away comes back beneath a live node
module _ (m : Items Row) (ids : IdsByPath) (owners : OwnerLists) (timed : IdList 2) (id : Id) (r : Row) (kept : IsLinked m ids owners)
    (there : get m id ≡ Some r) (below : r.path ≢ []) (free : get ids r.path ≡ None) (p : Id) (over : get ids (parent_of r.path) ≡ Some p) (named : NamesParents m ids) where
  abbrev listed : Items Row
  listed = with_timed (back.back m ids owners id r) timed (may_end r.node.term) id

  abbrev here : Items Row
  here = with_parent listed id p

  here-elsewhere : (q : Id) → q ≢ id → option_map kin (get here q) ≡ option_map kin (get m q)
  here-elsewhere q other =
      ap (option_map kin) (at-elsewhere listed id (λ x. record x { parent = Some p }) q other)
      ∙ timed-kept kin (λ _ _. refl) (back.back m ids owners id r) timed (may_end r.node.term) id q
      ∙ ap (option_map kin) (at-elsewhere _ id (λ x. record x { key = None }) q other)
      ∙ owned-kept kin (λ _ _. refl) (back.put m ids owners id r) (list_of owners r.node.owner) id q
      ∙ child-kept kin (λ _ _. refl) (λ _ _. refl) m (get ids (parent_of r.path)) id q

  here-face : option_map face (get here id) ≡ Some (back.after m ids owners id r)
  here-face =
      at-kept listed id (λ x. record x { parent = Some p }) face (λ _. refl) id
      ∙ timed-kept face (λ _ _. refl) (back.back m ids owners id r) timed (may_end r.node.term) id id
      ∙ back.face-here m ids owners id r there (list_of owners r.node.owner)

  its_parent : (o : Option Row) (x : Row) → option_map (λ (y : Row). record y { parent = Some p }) o ≡ Some x → x.parent ≡ Some p
  its_parent None x e = absurd (maps.none_some x e)
  its_parent (Some y) x e = ap (λ (z : Row). z.parent) (sym (maps.same_some (record y { parent = Some p }) x e))

  over-still : get (back.more m ids owners id r) (parent_of r.path) ≡ Some p
  over-still = maps.get-insert-elsewhere paths_total same_path ids r.path id (parent_of r.path) (λ is. parent_is_other r.path below is) ∙ over

  pub parents-back : NamesParents here (back.more m ids owners id r)
  parents-back i x e live = by (same_or_other i id)
    where
      by : (i ≡ id) ⊎ (i ≢ id) → x.parent ≡ option_and_then (get (back.more m ids owners id r)) (above x.path)
      by (inl is) =
          let at_id = ap (get here) (sym is) ∙ e in
          let same = maps.same_some (face x) (back.after m ids owners id r) (sym (ap (option_map face) at_id) ∙ here-face) in
          its_parent (get listed id) x (sym (at-here listed id (λ y. record y { parent = Some p })) ∙ at_id)
          ∙ sym (ap (option_and_then (get (back.more m ids owners id r))) (ap (λ f. above f.0) same ∙ above-path r.path below) ∙ over-still)
      by (inr other) =
          let y = part-there kin (get m i) (get here i) x (sym (here-elsewhere i other)) e in
          let lives = ap (λ (k : Kin). k.1.0) y.2 ∙ live in
          let others = λ (k : Path) (a : above y.0.path ≡ Some k).
          maps.get-insert-elsewhere paths_total same_path ids r.path id k (λ is.
          let way = path-above y.0.path k a in
          let found = parent-there m ids owners kept i (parent_of y.0.path) (key-of-live m i y.0 y.1 lives way.0) in
          maps.none_some found.0 (sym free ∙ ap (get ids) (sym (way.1 ∙ is)) ∙ found.1)) in
          kin-named ids (back.more m ids owners id r) y.0 x y.2 (named i y.0 y.1 lives) others

-- that a row names the node above changes no list, and nothing that is shown
module _ (m : Items Row) (ids : IdsByPath) (owners : OwnerLists) (id p : Id) where
  abbrev f : Row → Row
  f x = record x { parent = Some p }

  pub named-faces : (q : Id) → option_map face (get (with_parent m id p) q) ≡ option_map face (get m q)
  named-faces q = at-kept m id f face (λ _. refl) q

  pub linked-named : IsLinked m ids owners → IsLinked (with_parent m id p) ids owners
  linked-named kept =
      linked-same m (with_parent m id p) ids named-faces owners kept (at-kept m id f (λ (x : Row). x.children) (λ _. refl))
      (at-kept m id f sibling_links (λ _. refl)) (at-kept m id f fellow_links (λ _. refl))

  pub mortal-named : (timed : IdList 2) → HasTimed m timed → HasTimed (with_parent m id p) timed
  mortal-named timed kept =
      families-kept {L = 2} timed_links m (with_parent m id p) (key_at timed_key m) (key_at timed_key (with_parent m id p)) (λ _. timed) (λ _. timed)
      (λ q k e. at-kept m id f timed_links (λ _. refl) q) (λ q. by-face timed_face (get (with_parent m id p) q) (get m q) (named-faces q)) (λ k. refl) kept

-- what a live row names is the node right above
module _ (s : Inside) (linked : IsLinked s.slots.items s.index.ids s.owners) (named : NamesParents s.slots.items s.index.ids) (v : NodesView) (shown : view_of s ≡ v)
    (id : Id) (r : Row) (is : live_at s.slots.items id ≡ Some r) where
  found : (p : Id) → r.parent ≡ Some p → (k : Path) × (above r.path ≡ Some k) × (get s.index.ids k ≡ Some p)
  found p e =
      let row = live_parts s.slots.items id r is in
      and-then (get s.index.ids) (above r.path) p (sym (named id r row.0 row.1) ∙ e)

  same : (path : Path) → path_of v id ≡ Some path → path ≡ r.path
  same = path-same s linked v shown id r is

  pub parent-is : (p : Id) → r.parent ≡ Some p → IsUnder v id p
  parent-is p e path at =
      let k = found p e in
      path_of-found s linked v shown k.0 p k.2 ∙ ap Some (sym (ap parent_of (same path at) ∙ (path-above r.path k.0 k.1).1))

  pub parent-below : (p : Id) → r.parent ≡ Some p → AtPath v id (λ path. path ≢ [])
  parent-below p e path at root = let k = found p e in (path-above r.path k.0 k.1).0 (sym (same path at) ∙ root)

  pub parent-none : r.parent ≡ None → AtPath v id (λ path. path ≡ [])
  parent-none e path at = same path at ∙ by r.path refl
    where
      by : (q : Path) → r.path ≡ q → r.path ≡ []
      by [] root = root
      by (n ∷ q) is_path =
          let row = live_parts s.slots.items id r is in
          let below : r.path ≢ [] = λ f. cc in
          let over = parent-there s.slots.items s.index.ids s.owners linked id (parent_of r.path) (key-of-live s.slots.items id r row.0 row.1 below) in
          absurd (maps.none_some over.0 (sym e ∙ parent-of-live s.slots.items s.index.ids named id r row.0 row.1 below ∙ over.1))
