-- The rows are in order once one came back.
use Rattle.std.proofs.Common.{◌≡◌, ◌≢◌, ◌⊎◌, inl, inr, [], ℕ, ◌<◌, ◌≤◌, Option, Some, None, IfSome, IsSome, refl, sym, ap, ◌∙◌, arith}
use mathlib.Core.Path.{subst}
use Rattle.std.specs.Option.{option_map, option_map_or}
use Rattle.std.specs.FinMap as finite
use Rattle.std.specs.FinMap.{get, insert, remove}
use Rattle.zslots.specs.declared.id.Id.{Id}
use Rattle.zslots.specs.declared.list.List.{List as IdList}
use Rattle.zslots.specs.SlotsView.{Items}
use Rattle.zslots.specs.Links.{with_front}
use Rattle.zslots.specs.Lists.{empty_list, list_with_front}
use Rattle.zslots.specs.Families.{HasFamilies, ChangesHead, key_at}
use Rattle.zslots.proofs.Maps.{same_or_other}
use Rattle.zslots.proofs.ListMoves.{parts-kept}
use Rattle.zslots.proofs.Families.{families-pushed, family-room}
use Rattle.znodes.specs.index.IndexView.{IdsByPath}
use Rattle.ztree.specs.Tree.{Path, parent_of}
use Rattle.ztree.proofs.Maps as maps
use Rattle.ztree.proofs.Sorted.{paths_total, same_path}
use Rattle.ztree.proofs.Nodes.{parent_is_other}
use Rattle.znodes.specs.declared.row.Row.{Row}
use Rattle.znodes.specs.support.OwnerLists.{OwnerLists, list_of}
use Rattle.znodes.specs.support.Rows.{Key, KeepsKey, IsLinked, parent_key, owner_key, nodes_of, places_of, held_of, children_at, children_of, owned_by, sibling_links, fellow_links}
use Rattle.znodes.specs.support.Linking.{with_siblings, with_children, with_child, with_owned}
use Rattle.znodes.proofs.Faces.{Face, face, row-with, part-there, at-kept, owned-kept}
use Rattle.znodes.proofs.Heads.{list-kept, head-here, head-elsewhere, heads-changed}
use Rattle.znodes.proofs.Views.{places-back, held-back, nodes-back}
use Rattle.znodes.proofs.Linked.{only-path, children-are, owned-are}
use Rattle.znodes.proofs.Back.{put, back, more, owners_back, after, parent-before, owner-before, face-here, face-elsewhere, parent-now, parent-elsewhere, owned-back}

-- what the calls that put a row in ask for: its lists have room, since it isn't in them
module _ (m : Items Row) (ids : IdsByPath) (owners : OwnerLists) (id : Id) (r : Row) (key : Key) (kept : IsLinked m ids owners) (there : get m id ≡ Some r) (gone : r.key ≡ Some key) (bound : ℕ) (few : finite.len m ≤ bound) where
  live_id : IsSome (get m id)
  live_id = subst IsSome (sym there) refl

  pub child-room : (parent : Option Id) → parent ≡ get ids (parent_of r.path) → IfSome parent (λ p. (x : Row) → get m p ≡ Some x → x.children.len < bound)
  child-room None e = tt
  child-room (Some p) e = λ x is.
      let k = parent_of r.path in
      let room = family-room {L = 0} sibling_links m (key_at parent_key m) (children_of m ids k) k (kept.children k) id live_id
      (λ mine. maps.none_some k (sym (parent-before m ids owners id r key there gone) ∙ mine)) in
      let same : (children_of m ids k).len ≡ x.children.len = ap (λ (list : IdList 0). list.len) (children-are m ids owners kept k p x (sym e) is) in
      omega (arith, room, same, few)

  pub owned-room : (list : Option (IdList 1)) → ((l : IdList 1) → list ≡ Some l → get owners r.node.owner ≡ Some l) → IfSome list (λ l. l.len < bound)
  owned-room None has = tt
  owned-room (Some list) has =
      let owner = r.node.owner in
      let room = family-room {L = 1} fellow_links m (key_at owner_key m) (owned_by owners owner) owner (kept.owned owner) id live_id
      (λ mine. maps.none_some owner (sym (owner-before m ids owners id r key there gone) ∙ mine)) in
      let same : (owned_by owners owner).len ≡ list.len = ap (λ (l : IdList 1). l.len) (owned-are m ids owners kept owner list (has list refl)) in
      omega (arith, room, same, few)

module _ (m : Items Row) (ids : IdsByPath) (owners : OwnerLists) (id : Id) (r : Row) (key : Key)
    (kept : IsLinked m ids owners) (there : get m id ≡ Some r) (gone : r.key ≡ Some key) (below : r.path ≢ [])
    (free : get ids r.path ≡ None) (p : Id) (over : get ids (parent_of r.path) ≡ Some p) (known : (r.node.owner ≡ 0) ⊎ IsSome (get owners r.node.owner)) where
  abbrev n : Items Row
  n = back m ids owners id r

  abbrev later : IdsByPath
  later = more m ids owners id r

  abbrev k : Path
  k = parent_of r.path

  abbrev list : Option (IdList 1)
  list = list_of owners r.node.owner

  pub upper : (xp : Row) × (get m p ≡ Some xp) × (xp.path ≡ k) × (xp.key ≡ None)
  upper = kept.named k p over

  apart : r.path ≢ k
  apart e = parent_is_other r.path below (sym e)

  -- a row in the tree is another
  not_live : (x : Row) (i : Id) → get m i ≡ Some x → x.key ≡ None → i ≢ id
  not_live x i e live same = maps.none_some key (sym live ∙ ap (λ (y : Row). y.key) (maps.same_some x r (sym e ∙ ap (get m) same ∙ there)) ∙ gone)

  parent_other : id ≢ p
  parent_other e = not_live upper.0 p upper.1 upper.3 (sym e)

  abbrev its_list : IdList 0
  its_list = list_with_front upper.0.children id

  abbrev between : Items Row
  between = with_front sibling_links with_siblings m upper.0.children.first id

  put-is : put m ids owners id r ≡ with_children between p its_list
  put-is =
      ap (λ o. with_child m o id) over
      ∙ ap (λ o. option_map_or (λ (x : Row). with_children (with_front sibling_links with_siblings m x.children.first id) p (list_with_front x.children id)) o m) upper.1

  keyed_sub : {X : Type 0} (part : Row → X) → ((x : Row) → part (record x { key = None }) ≡ part x) → ((x : Row) (to : _) → part (record x { fellows = to }) ≡ part x) → (q : Id) → option_map part (get n q) ≡ option_map part (get (put m ids owners id r) q)
  keyed_sub part keys fellows q =
      at-kept (with_owned (put m ids owners id r) list id) id (λ x. record x { key = None }) part keys q
      ∙ owned-kept part fellows (put m ids owners id r) list id q

  siblings : (q : Id) → option_map sibling_links (get n q) ≡ option_map sibling_links (get between q)
  siblings q =
      keyed_sub sibling_links (λ _. refl) (λ _ _. refl) q ∙ ap (λ w. option_map sibling_links (get w q)) put-is
      ∙ at-kept between p (λ x. record x { children = its_list }) sibling_links (λ _. refl) q

  lists_left : (q : Id) → option_map (λ (x : Row). x.children) (get between q) ≡ option_map (λ (x : Row). x.children) (get m q)
  lists_left q = (parts-kept sibling_links with_siblings (λ _ _. refl) (λ (x : Row). x.children) (λ _ _. refl) m upper.0.children.first id q).0

  list-put : (q : Id) → children_at n q ≡ children_at (with_children between p its_list) q
  list-put q = list-kept (put m ids owners id r) n q (keyed_sub (λ (x : Row). x.children) (λ _. refl) (λ _ _. refl) q) ∙ ap (λ w. children_at w q) put-is

  head : children_at n p ≡ its_list
  head = list-put p ∙ head-here m between p upper.0 its_list upper.1 lists_left

  heads : (q : Id) → q ≢ p → children_at n q ≡ children_at m q
  heads q other = list-put q ∙ head-elsewhere m between p upper.0 its_list upper.1 lists_left q other

  list-at : (w : Items Row) (i : Id) (x : Row) → get w i ≡ Some x → children_at w i ≡ x.children
  list-at w i x e = ap (λ o. option_map_or (λ (y : Row). y.children) o empty_list) e

  at_path : children_of n later r.path ≡ children_of m ids r.path
  at_path =
      ap (λ o. option_map_or (children_at n) o empty_list) (maps.get-insert-here paths_total same_path ids r.path id)
      ∙ heads id parent_other ∙ list-at m id r there ∙ (kept.keyed id r there key gone).1
      ∙ sym (ap (λ o. option_map_or (children_at m) o empty_list) free)

  changes : ChangesHead (children_of m ids) (children_of n later) k its_list
  changes =
      heads-changed m n ids later r.path k p its_list apart over (λ q e. only-path m ids owners kept q k p e over)
      (λ q other. maps.get-insert-elsewhere paths_total same_path ids r.path id q other) at_path head heads

  children-back : HasFamilies {L = 0} sibling_links parent_key n (children_of n later)
  children-back =
      let are = children-are m ids owners kept k p upper.0 over upper.1 in
      let change = subst (λ l. ChangesHead (children_of m ids) (children_of n later) k (list_with_front l id)) (sym are) changes in
      let written = subst (λ (l : IdList 0). (q : Id) → option_map sibling_links (get n q) ≡ option_map sibling_links (get (with_front sibling_links with_siblings m l.first id) q)) (sym are) siblings in
      families-pushed {L = 0} sibling_links with_siblings (λ _ _. refl) m n (key_at parent_key m) (key_at parent_key n) (children_of m ids) (children_of n later) k id (subst IsSome (sym there) refl)
      (parent-before m ids owners id r key there gone) (parent-now m ids owners id r there list below) (parent-elsewhere m ids owners id r there list) written change kept.children

  here : option_map face (get n id) ≡ Some (after m ids owners id r)
  here = face-here m ids owners id r there list

  elsewhere : (q : Id) → q ≢ id → option_map face (get n q) ≡ option_map face (get m q)
  elsewhere = face-elsewhere m ids owners id r there list

  -- no path names it
  not_id : (q : Path) (i : Id) → q ≢ r.path → get ids q ≡ Some i → i ≢ id
  not_id q i other e = let was = kept.named q i e in not_live was.0 i was.1 was.3

  named-back : (path : Path) (i : Id) → get later path ≡ Some i → (x : Row) × (get n i ≡ Some x) × (x.path ≡ path) × (x.key ≡ None)
  named-back path i e = by (maps.get-inserted paths_total same_path ids r.path id path i e)
    where
      by : ((path ≡ r.path) × (id ≡ i)) ⊎ ((path ≢ r.path) × (get ids path ≡ Some i)) → (x : Row) × (get n i ≡ Some x) × (x.path ≡ path) × (x.key ≡ None)
      by (inl own) =
          let now = row-with (get n i) (after m ids owners id r) (ap (λ q. option_map face (get n q)) (sym own.1) ∙ here) in
          (now.0, now.1, now.2 ∙ sym own.0, now.4)
      by (inr old) =
          let was = kept.named path i old.1 in
          let now = row-with (get n i) (face was.0) (elsewhere i (not_id path i old.0 old.1) ∙ ap (option_map face) was.1) in
          (now.0, now.1, now.2 ∙ was.2, now.4 ∙ was.3)

  -- a row elsewhere had this face
  before : (i : Id) (x : Row) → i ≢ id → get n i ≡ Some x → (y : Row) × (get m i ≡ Some y) × (face y ≡ face x)
  before i x other e = part-there face (get m i) (get n i) x (sym (elsewhere i other)) e

  -- the row itself has no key
  itself : (i : Id) (x : Row) → i ≡ id → get n i ≡ Some x → (x.path ≡ r.path) × (x.key ≡ None)
  itself i x is e =
      let same = maps.same_some (face x) (after m ids owners id r) (sym (ap (option_map face) (ap (get n) (sym is) ∙ e)) ∙ here) in
      (ap (λ (f : Face). f.0) same, ap (λ (f : Face). f.1.1) same)

  found-back : (i : Id) (x : Row) → get n i ≡ Some x → x.key ≡ None → get later x.path ≡ Some i
  found-back i x e none = by (same_or_other i id)
    where
      by : (i ≡ id) ⊎ (i ≢ id) → get later x.path ≡ Some i
      by (inl is) = ap (get later) (itself i x is e).0 ∙ maps.get-insert-here paths_total same_path ids r.path id ∙ ap Some (sym is)
      by (inr other) =
          let y = before i x other e in
          let path : y.0.path ≡ x.path = ap (λ (f : Face). f.0) y.2 in
          let found = kept.found i y.0 y.1 (ap (λ (f : Face). f.1.1) y.2 ∙ none) in
          let away_from : x.path ≢ r.path = λ same. maps.none_some i (sym free ∙ ap (get ids) (sym (path ∙ same)) ∙ found) in
          maps.get-insert-elsewhere paths_total same_path ids r.path id x.path away_from ∙ ap (get ids) (sym path) ∙ found

  keyed-back : (i : Id) (x : Row) → get n i ≡ Some x → KeepsKey x
  keyed-back i x e = λ other_key has. by other_key has (same_or_other i id)
    where
      by : (other_key : Key) → x.key ≡ Some other_key → (i ≡ id) ⊎ (i ≢ id) → (other_key ≡ x.path) × (x.children ≡ empty_list)
      by other_key has (inl is) = absurd (maps.none_some other_key (sym (itself i x is e).1 ∙ has))
      by other_key has (inr other) =
          let y = before i x other e in
          let keys = kept.keyed i y.0 y.1 other_key (ap (λ (f : Face). f.1.1) y.2 ∙ has) in
          let not_parent : i ≢ p = λ same.
          maps.none_some other_key (sym upper.3 ∙ ap (λ (z : Row). z.key) (maps.same_some upper.0 y.0 (sym upper.1 ∙ ap (get m) (sym same) ∙ y.1)) ∙ ap (λ (f : Face). f.1.1) y.2 ∙ has) in
          (keys.0 ∙ ap (λ (f : Face). f.0) y.2, sym (list-at n i x e) ∙ heads i not_parent ∙ list-at m i y.0 y.1 ∙ keys.1)

  pub linked-back : IsLinked n later (owners_back m ids owners id r)
  linked-back = record {
    named = named-back;
    found = found-back;
    keyed = keyed-back;
    children = children-back;
    owned = owned-back m ids owners id r key kept there gone known;
  }

  pub nodes-returned : nodes_of n later ≡ insert (nodes_of m ids) r.path r.node
  nodes-returned =
      nodes-back m n id r.path r.node elsewhere ids later r.path (λ q other. maps.get-insert-elsewhere paths_total same_path ids r.path id q other) not_id
      None here (maps.get-insert-here paths_total same_path ids r.path id)

  pub places-returned : places_of n ≡ insert (places_of m) id r.path
  places-returned = places-back m n id r.path r.node elsewhere here

  pub held-returned : held_of n ≡ remove (held_of m) id
  held-returned = held-back m n id r.path r.node elsewhere here
