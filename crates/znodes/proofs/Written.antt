-- A live row's node is changed, but for its owner.
use Rattle.std.proofs.Common.{◌≡◌, ◌≢◌, ◌⊎◌, inl, inr, ℕ, false, true, cond, Option, Some, None, refl, sym, ap, ◌∙◌}
use Rattle.std.specs.Option.{option_map, option_map_or, option_and_then}
use Rattle.std.specs.FinMap as finite
use Rattle.std.specs.FinMap.{get, insert, same_map}
use Rattle.zslots.specs.declared.id.Id.{Id}
use Rattle.zslots.specs.SlotsView.{Items}
use Rattle.zslots.specs.Lists.{empty_list}
use Rattle.zslots.specs.Families.{key_at}
use Rattle.zslots.proofs.Maps.{id_cmp_total, id_cmp_same, same_or_other}
use Rattle.zslots.proofs.Families.{families-kept}
use Rattle.znodes.specs.index.IndexView.{IdsByPath}
use Rattle.ztree.specs.declared.node.Node.{Node}
use Rattle.ztree.specs.Tree.{Path, with_change_at}
use Rattle.ztree.proofs.Nodes.{changed_at-some}
use Rattle.ztree.proofs.Sorted.{paths_total, same_path}
use Rattle.znodes.specs.declared.row.Row.{Row}
use Rattle.znodes.specs.support.OwnerLists.{OwnerLists, somebody}
use Rattle.znodes.specs.support.Rows.{Key, KeepsKey, IsLinked, above, parent_key, owner_key, taken_row, node_at, nodes_of, places_of, held_of, children_at, children_of, owned_by, sibling_links, fellow_links}
use Rattle.znodes.specs.support.Linking.{with_node_at}
use Rattle.znodes.proofs.Faces.{by-part, part-there, at-here, at-elsewhere, at-kept}
use Rattle.znodes.proofs.Few.{parts-many}
use Rattle.znodes.proofs.Heads.{list-kept}
use Rattle.znodes.proofs.Views.{get-nodes, get-places, get-held, through, insert-is}
use Rattle.znodes.proofs.Linked.{only-path, node-shown}

-- a row that is there, written
pub row-written : (m : Items Row) (id : Id) (f : Node → Node) (r : Row) → get m id ≡ Some r → insert m id (record r { node = f r.node }) ≡ with_node_at m id f
row-written m id f r there = sym (ap (λ o. option_map_or (λ (x : Row). insert m id (record x { node = f x.node })) o m) there)

-- there are as many rows
pub rows-written : (m : Items Row) (id : Id) (f : Node → Node) → finite.len (with_node_at m id f) ≡ finite.len m
rows-written m id f = parts-many (λ (x : Row). x.path) m (with_node_at m id f) (λ q. at-kept m id (λ x. record x { node = f x.node }) (λ (x : Row). x.path) (λ _. refl) q)

-- what stays of the row
abbrev Stay : Type 0
Stay = Path × (ℕ × Option Key)

abbrev stay : Row → Stay
stay r = (r.path, (r.node.owner, r.key))

module _ (m : Items Row) (ids : IdsByPath) (owners : OwnerLists) (id : Id) (r : Row) (f : Node → Node) (kept : IsLinked m ids owners)
    (there : get m id ≡ Some r) (live : r.key ≡ None) (owner : (n : Node) → (f n).owner ≡ n.owner) where
  abbrev n : Items Row
  n = with_node_at m id f

  stays : (q : Id) → option_map stay (get n q) ≡ option_map stay (get m q)
  stays q = at-kept m id (λ x. record x { node = f x.node }) stay (λ x i. (x.path, (owner x.node i, x.key))) q

  lists : (q : Id) → children_at n q ≡ children_at m q
  lists q = list-kept m n q (at-kept m id (λ x. record x { node = f x.node }) (λ (x : Row). x.children) (λ _. refl) q)

  heads : (k : Path) → children_of n ids k ≡ children_of m ids k
  heads k = by (get ids k)
    where
      by : (o : Option Id) → option_map_or (children_at n) o empty_list ≡ option_map_or (children_at m) o empty_list
      by None = refl
      by (Some i) = lists i

  parents : (q : Id) → key_at parent_key n q ≡ key_at parent_key m q
  parents q = by-part stay (λ (s : Stay). cond (option_map_or (λ (_ : Key). false) s.1.1 true) (above s.0) None) (get n q) (get m q) (stays q)

  holders : (q : Id) → key_at owner_key n q ≡ key_at owner_key m q
  holders q = by-part stay (λ (s : Stay). cond (option_map_or (λ (_ : Key). false) s.1.1 true) (somebody s.1.0) None) (get n q) (get m q) (stays q)

  -- each row as it was, but for the node
  after : (i : Id) (x : Row) → get m i ≡ Some x → (y : Row) × (get n i ≡ Some y) × (stay y ≡ stay x)
  after i x e = part-there stay (get n i) (get m i) x (stays i) e

  before : (i : Id) (x : Row) → get n i ≡ Some x → (y : Row) × (get m i ≡ Some y) × (stay y ≡ stay x)
  before i x e = part-there stay (get m i) (get n i) x (sym (stays i)) e

  list-at : (w : Items Row) (i : Id) (x : Row) → get w i ≡ Some x → children_at w i ≡ x.children
  list-at w i x e = ap (λ o. option_map_or (λ (y : Row). y.children) o empty_list) e

  named-written : (path : Path) (i : Id) → get ids path ≡ Some i → (x : Row) × (get n i ≡ Some x) × (x.path ≡ path) × (x.key ≡ None)
  named-written path i e =
      let was = kept.named path i e in
      let now = after i was.0 was.1 in
      (now.0, now.1, ap (λ (s : Stay). s.0) now.2 ∙ was.2, ap (λ (s : Stay). s.1.1) now.2 ∙ was.3)

  found-written : (i : Id) (x : Row) → get n i ≡ Some x → x.key ≡ None → get ids x.path ≡ Some i
  found-written i x e none =
      let was = before i x e in
      ap (get ids) (ap (λ (s : Stay). s.0) (sym was.2)) ∙ kept.found i was.0 was.1 (ap (λ (s : Stay). s.1.1) was.2 ∙ none)

  keyed-written : (i : Id) (x : Row) → get n i ≡ Some x → KeepsKey x
  keyed-written i x e = λ key has.
      let was = before i x e in
      let keys = kept.keyed i was.0 was.1 key (ap (λ (s : Stay). s.1.1) was.2 ∙ has) in
      (keys.0 ∙ ap (λ (s : Stay). s.0) was.2, sym (list-at n i x e) ∙ lists i ∙ list-at m i was.0 was.1 ∙ keys.1)

  pub linked-written : IsLinked n ids owners
  linked-written = record {
    named = named-written;
    found = found-written;
    keyed = keyed-written;
    children =
        families-kept {L = 0} sibling_links m n (key_at parent_key m) (key_at parent_key n) (children_of m ids) (children_of n ids)
        (λ q k e. at-kept m id (λ x. record x { node = f x.node }) sibling_links (λ _. refl) q) parents heads kept.children;
    owned =
        families-kept {L = 1} fellow_links m n (key_at owner_key m) (key_at owner_key n) (owned_by owners) (owned_by owners)
        (λ q k e. at-kept m id (λ x. record x { node = f x.node }) fellow_links (λ _. refl) q) holders (λ k. refl) kept.owned;
  }

  pub places-written : places_of n ≡ places_of m
  places-written =
      same_map id_cmp_total id_cmp_same _ _ (λ q. get-places n q
      ∙ by-part stay (λ (s : Stay). cond (option_map_or (λ (_ : Key). false) s.1.1 true) (Some s.0) None) (get n q) (get m q) (stays q)
      ∙ sym (get-places m q))

  own : get n id ≡ Some (record r { node = f r.node })
  own = at-here m id (λ x. record x { node = f x.node }) ∙ ap (option_map (λ (x : Row). record x { node = f x.node })) there

  not_taken : (w : Items Row) (x : Row) → get w id ≡ Some x → x.key ≡ None → option_and_then taken_row (get w id) ≡ None
  not_taken w x e none = ap (option_and_then taken_row) e ∙ ap (λ (k : Option Key). cond (option_map_or (λ (_ : Key). false) k true) None (Some (x.path, x.node))) none

  pub held-written : held_of n ≡ held_of m
  held-written = same_map id_cmp_total id_cmp_same _ _ (λ q. get-held n q ∙ by q (same_or_other q id) ∙ sym (get-held m q))
    where
      by : (q : Id) → (q ≡ id) ⊎ (q ≢ id) → option_and_then taken_row (get n q) ≡ option_and_then taken_row (get m q)
      by q (inl is) =
          ap (λ i. option_and_then taken_row (get n i)) is ∙ not_taken n (record r { node = f r.node }) own live
          ∙ sym (ap (λ i. option_and_then taken_row (get m i)) is ∙ not_taken m r there live)
      by q (inr other) = ap (option_and_then taken_row) (at-elsewhere m id (λ x. record x { node = f x.node }) q other)

  pub nodes-written : nodes_of n ids ≡ with_change_at (nodes_of m ids) r.path f
  nodes-written =
      insert-is paths_total same_path (nodes_of m ids) (nodes_of n ids) r.path elsewhere (f r.node)
      (get-nodes n ids r.path ∙ ap (option_and_then (node_at n)) (kept.found id r there live) ∙ ap (option_map (λ (x : Row). x.node)) own)
      ∙ sym (changed_at-some (nodes_of m ids) r.path f r.node (node-shown m ids owners kept id r there live))
    where
      elsewhere : (q : Path) → q ≢ r.path → get (nodes_of n ids) q ≡ get (nodes_of m ids) q
      elsewhere q other =
          get-nodes n ids q
          ∙ through (node_at n) (node_at m) (get ids q) (λ i e. ap (option_map (λ (x : Row). x.node)) (at-elsewhere m id (λ x. record x { node = f x.node }) i
          (λ same. other (only-path m ids owners kept q r.path id (e ∙ ap Some same) (kept.found id r there live)))))
          ∙ sym (get-nodes m ids q)
