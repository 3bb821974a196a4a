-- The rows are in order once one was taken away.
use Rattle.std.proofs.Common.{◌≡◌, ◌≢◌, ◌⊎◌, inl, inr, [], ◌<◌, Option, Some, None, IfSome, refl, sym, ap, ◌∙◌}
use mathlib.Core.Path.{subst}
use Rattle.std.specs.Option.{option_map, option_map_or}
use Rattle.std.specs.FinMap.{get, insert, remove}
use Rattle.zslots.specs.declared.id.Id.{Id}
use Rattle.zslots.specs.declared.list.List.{List as IdList}
use Rattle.zslots.specs.SlotsView.{Items}
use Rattle.zslots.specs.Links.{without}
use Rattle.zslots.specs.Lists.{empty_list, list_without}
use Rattle.zslots.specs.Families.{HasFamilies, ChangesHead, key_at}
use Rattle.zslots.proofs.Maps.{same_or_other}
use Rattle.zslots.proofs.ListMoves.{parts-kept}
use Rattle.zslots.proofs.Families.{families-unlinked}
use Rattle.znodes.specs.index.IndexView.{IdsByPath}
use Rattle.ztree.specs.Tree.{Path, parent_of, children}
use Rattle.ztree.proofs.Maps as maps
use Rattle.ztree.proofs.Sorted.{paths_total, same_path}
use Rattle.ztree.proofs.Nodes.{parent_is_other}
use Rattle.znodes.specs.declared.row.Row.{Row}
use Rattle.znodes.specs.support.OwnerLists.{OwnerLists, list_of}
use Rattle.znodes.specs.support.Rows.{Key, KeepsKey, IsLinked, parent_key, owner_key, nodes_of, places_of, held_of, children_at, children_of, owned_by, sibling_links, fellow_links}
use Rattle.znodes.specs.support.Linking.{with_siblings, with_children, without_child, without_owned}
use Rattle.znodes.proofs.Faces.{Face, face, row-with, part-there, at-kept, unowned-kept}
use Rattle.znodes.proofs.Heads.{list-kept, head-here, head-elsewhere, heads-changed}
use Rattle.znodes.proofs.Views.{places-taken, held-taken, nodes-taken}
use Rattle.znodes.proofs.Linked.{key-of-live, leaf-list, parent-there, only-path, children-are, owner-list, owned-are, family-filled}
use Rattle.znodes.proofs.Away.{cut, away, fewer, owners_after, after, face-here, face-elsewhere, parent-none, parent-elsewhere, owned-away}

-- what the calls that take a row out ask for: its lists have it
module _ (m : Items Row) (ids : IdsByPath) (owners : OwnerLists) (id : Id) (r : Row) (kept : IsLinked m ids owners) (there : get m id ≡ Some r) (live : r.key ≡ None) where
  pub child-counted : r.path ≢ [] → (parent : Option Id) → parent ≡ get ids (parent_of r.path) → IfSome parent (λ p. (x : Row) → get m p ≡ Some x → 0 < x.children.len)
  child-counted below None e = tt
  child-counted below (Some p) e = λ x is.
      let filled = family-filled {L = 0} sibling_links m (key_at parent_key m) (children_of m ids (parent_of r.path)) (parent_of r.path) (kept.children (parent_of r.path)) id (key-of-live m id r there live below) in
      subst (λ (list : IdList 0). 0 < list.len) (children-are m ids owners kept (parent_of r.path) p x (sym e) is) filled

  pub owned-counted : IfSome (list_of owners r.node.owner) (λ list. 0 < list.len)
  owned-counted = by (owner-list m ids owners kept id r there live)
    where
      by : ((list_of owners r.node.owner ≡ None) × (key_at owner_key m id ≡ None)) ⊎ ((list : IdList 1) × (list_of owners r.node.owner ≡ Some list) × (get owners r.node.owner ≡ Some list) × (key_at owner_key m id ≡ Some r.node.owner)) → IfSome (list_of owners r.node.owner) (λ list. 0 < list.len)
      by (inl n) = subst (λ o. IfSome o (λ (list : IdList 1). 0 < list.len)) (sym n.0) tt
      by (inr s) =
          let filled = family-filled {L = 1} fellow_links m (key_at owner_key m) (owned_by owners r.node.owner) r.node.owner (kept.owned r.node.owner) id s.3 in
          subst (λ o. IfSome o (λ (list : IdList 1). 0 < list.len)) (sym s.1) (subst (λ (list : IdList 1). 0 < list.len) (owned-are m ids owners kept r.node.owner s.0 s.2) filled)

module _ (m : Items Row) (ids : IdsByPath) (owners : OwnerLists) (id : Id) (r : Row) (key : Key)
    (kept : IsLinked m ids owners) (there : get m id ≡ Some r) (live : r.key ≡ None) (below : r.path ≢ [])
    (leaf : children (nodes_of m ids) r.path ≡ []) (named : key ≡ r.path) where
  abbrev n : Items Row
  n = away m ids owners id r key

  abbrev later : IdsByPath
  later = fewer m ids owners id r key

  abbrev k : Path
  k = parent_of r.path

  abbrev list : Option (IdList 1)
  list = list_of owners r.node.owner

  its_path : get ids r.path ≡ Some id
  its_path = kept.found id r there live

  mine : key_at parent_key m id ≡ Some k
  mine = key-of-live m id r there live below

  pub over : (p : Id) × (get ids k ≡ Some p)
  over = parent-there m ids owners kept id k mine

  pub upper : (xp : Row) × (get m over.0 ≡ Some xp) × (xp.path ≡ k) × (xp.key ≡ None)
  upper = kept.named k over.0 over.1

  apart : r.path ≢ k
  apart e = parent_is_other r.path below (sym e)

  parent_other : id ≢ over.0
  parent_other e = apart (ap (λ (x : Row). x.path) (maps.same_some r upper.0 (sym there ∙ ap (get m) e ∙ upper.1)) ∙ upper.2)

  -- the node above has this one among its children
  abbrev its_list : IdList 0
  its_list = list_without sibling_links m upper.0.children id

  abbrev between : Items Row
  between = without sibling_links with_siblings m id

  cut-is : cut m ids owners id r key ≡ with_children between over.0 its_list
  cut-is = ap (λ o. without_child m o id) over.1 ∙ ap (λ o. option_map_or (λ (x : Row). with_children between over.0 (list_without sibling_links m x.children id)) o m) upper.1

  keyed_sub : {X : Type 0} (part : Row → X) → ((x : Row) → part (record x { key = Some key }) ≡ part x) → ((x : Row) (to : _) → part (record x { fellows = to }) ≡ part x) → (q : Id) → option_map part (get n q) ≡ option_map part (get (cut m ids owners id r key) q)
  keyed_sub part keys fellows q =
      at-kept (without_owned (cut m ids owners id r key) list id) id (λ x. record x { key = Some key }) part keys q
      ∙ unowned-kept part fellows (cut m ids owners id r key) list id q

  siblings : (q : Id) → option_map sibling_links (get n q) ≡ option_map sibling_links (get between q)
  siblings q =
      keyed_sub sibling_links (λ _. refl) (λ _ _. refl) q ∙ ap (λ w. option_map sibling_links (get w q)) cut-is
      ∙ at-kept between over.0 (λ x. record x { children = its_list }) sibling_links (λ _. refl) q

  lists_left : (q : Id) → option_map (λ (x : Row). x.children) (get between q) ≡ option_map (λ (x : Row). x.children) (get m q)
  lists_left q = (parts-kept sibling_links with_siblings (λ _ _. refl) (λ (x : Row). x.children) (λ _ _. refl) m None id q).1

  list-cut : (q : Id) → children_at n q ≡ children_at (with_children between over.0 its_list) q
  list-cut q = list-kept (cut m ids owners id r key) n q (keyed_sub (λ (x : Row). x.children) (λ _. refl) (λ _ _. refl) q) ∙ ap (λ w. children_at w q) cut-is

  head : children_at n over.0 ≡ its_list
  head = list-cut over.0 ∙ head-here m between over.0 upper.0 its_list upper.1 lists_left

  heads : (q : Id) → q ≢ over.0 → children_at n q ≡ children_at m q
  heads q other = list-cut q ∙ head-elsewhere m between over.0 upper.0 its_list upper.1 lists_left q other

  no_list : children_of m ids r.path ≡ empty_list
  no_list = leaf-list m ids owners kept r.path below leaf

  changes : ChangesHead (children_of m ids) (children_of n later) k its_list
  changes =
      heads-changed m n ids later r.path k over.0 its_list apart over.1 (λ q e. only-path m ids owners kept q k over.0 e over.1)
      (λ q other. maps.get-remove-elsewhere paths_total same_path ids r.path q other)
      (ap (λ o. option_map_or (children_at n) o empty_list) (maps.get-remove-here paths_total same_path ids r.path) ∙ sym no_list) head heads

  children-away : HasFamilies {L = 0} sibling_links parent_key n (children_of n later)
  children-away =
      let are = children-are m ids owners kept k over.0 upper.0 over.1 upper.1 in
      let change = subst (λ l. ChangesHead (children_of m ids) (children_of n later) k (list_without sibling_links m l id)) (sym are) changes in
      families-unlinked {L = 0} sibling_links with_siblings (λ _ _. refl) m n (key_at parent_key m) (key_at parent_key n) (children_of m ids) (children_of n later) k id mine
      (parent-none m ids owners id r key there list) (parent-elsewhere m ids owners id r key there list) siblings change kept.children

  here : option_map face (get n id) ≡ Some (after m ids owners id r key)
  here = face-here m ids owners id r key there list

  elsewhere : (q : Id) → q ≢ id → option_map face (get n q) ≡ option_map face (get m q)
  elsewhere = face-elsewhere m ids owners id r key there list

  -- other paths name other Ids
  not_id : (q : Path) (i : Id) → q ≢ r.path → get ids q ≡ Some i → i ≢ id
  not_id q i other e same = other (only-path m ids owners kept q r.path id (e ∙ ap Some same) its_path)

  named-away : (path : Path) (i : Id) → get later path ≡ Some i → (x : Row) × (get n i ≡ Some x) × (x.path ≡ path) × (x.key ≡ None)
  named-away path i e =
      let old = maps.get-removed paths_total same_path ids r.path path i e in
      let was = kept.named path i old.1 in
      let now = row-with (get n i) (face was.0) (elsewhere i (not_id path i old.0 old.1) ∙ ap (option_map face) was.1) in
      (now.0, now.1, now.2 ∙ was.2, now.4 ∙ was.3)

  -- a row elsewhere had this face
  before : (i : Id) (x : Row) → i ≢ id → get n i ≡ Some x → (y : Row) × (get m i ≡ Some y) × (face y ≡ face x)
  before i x other e = part-there face (get m i) (get n i) x (sym (elsewhere i other)) e

  -- the row itself has a key
  itself : (x : Row) → get n id ≡ Some x → (x.path ≡ r.path) × (x.key ≡ Some key)
  itself x e =
      let same = maps.same_some (face x) (after m ids owners id r key) (sym (ap (option_map face) e) ∙ here) in
      (ap (λ (f : Face). f.0) same, ap (λ (f : Face). f.1.1) same)

  found-away : (i : Id) (x : Row) → get n i ≡ Some x → x.key ≡ None → get later x.path ≡ Some i
  found-away i x e none = by (same_or_other i id)
    where
      by : (i ≡ id) ⊎ (i ≢ id) → get later x.path ≡ Some i
      by (inl is) = absurd (maps.none_some key (sym none ∙ (itself x (ap (get n) (sym is) ∙ e)).1))
      by (inr other) =
          let y = before i x other e in
          let path : y.0.path ≡ x.path = ap (λ (f : Face). f.0) y.2 in
          let found = kept.found i y.0 y.1 (ap (λ (f : Face). f.1.1) y.2 ∙ none) in
          let away_from : x.path ≢ r.path = λ same. other (maps.same_some i id (sym found ∙ ap (get ids) (path ∙ same) ∙ its_path)) in
          maps.get-remove-elsewhere paths_total same_path ids r.path x.path away_from ∙ ap (get ids) (sym path) ∙ found

  own_list : r.children ≡ empty_list
  own_list = sym (children-are m ids owners kept r.path id r its_path there) ∙ no_list

  list-at : (w : Items Row) (i : Id) (x : Row) → get w i ≡ Some x → children_at w i ≡ x.children
  list-at w i x e = ap (λ o. option_map_or (λ (y : Row). y.children) o empty_list) e

  keyed-away : (i : Id) (x : Row) → get n i ≡ Some x → KeepsKey x
  keyed-away i x e = λ other_key has. by other_key has (same_or_other i id)
    where
      by : (other_key : Key) → x.key ≡ Some other_key → (i ≡ id) ⊎ (i ≢ id) → (other_key ≡ x.path) × (x.children ≡ empty_list)
      by other_key has (inl is) =
          let at_id = ap (get n) (sym is) ∙ e in
          let own = itself x at_id in
          let same = maps.same_some other_key key (sym has ∙ own.1) in
          (same ∙ named ∙ sym own.0, sym (list-at n id x at_id) ∙ heads id parent_other ∙ list-at m id r there ∙ own_list)
      by other_key has (inr other) =
          let y = before i x other e in
          let keys = kept.keyed i y.0 y.1 other_key (ap (λ (f : Face). f.1.1) y.2 ∙ has) in
          let not_parent : i ≢ over.0 = λ same.
          maps.none_some other_key (sym upper.3 ∙ ap (λ (z : Row). z.key) (maps.same_some upper.0 y.0 (sym upper.1 ∙ ap (get m) (sym same) ∙ y.1)) ∙ ap (λ (f : Face). f.1.1) y.2 ∙ has) in
          (keys.0 ∙ ap (λ (f : Face). f.0) y.2, sym (list-at n i x e) ∙ heads i not_parent ∙ list-at m i y.0 y.1 ∙ keys.1)

  pub linked-away : IsLinked n later (owners_after m ids owners id r key)
  linked-away = record {
    named = named-away;
    found = found-away;
    keyed = keyed-away;
    children = children-away;
    owned = owned-away m ids owners id r key kept there live;
  }

  pub nodes-away : nodes_of n later ≡ remove (nodes_of m ids) r.path
  nodes-away =
      nodes-taken m n id r.path r.node elsewhere ids later r.path (λ q other. maps.get-remove-elsewhere paths_total same_path ids r.path q other) not_id
      (maps.get-remove-here paths_total same_path ids r.path)

  pub places-away : places_of n ≡ remove (places_of m) id
  places-away = places-taken m n id r.path r.node elsewhere key here

  pub held-away : held_of n ≡ insert (held_of m) id (r.path, r.node)
  held-away = held-taken m n id r.path r.node elsewhere key here
