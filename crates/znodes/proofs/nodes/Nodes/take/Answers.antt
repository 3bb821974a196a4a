use Rattle.std.proofs.Common.{◌≡◌, ◌≢◌, ◌≤◌, [], Option, Some, None, IfSome, is_some, sym, ap, ◌∙◌}
use mathlib.Core.Path.{subst}
use Rattle.std.specs.Option.{option_copied, option_and_then}
use Rattle.std.specs.FinMap.{get, insert, remove}
use Rattle.zslots.specs.declared.list.List.{List as IdList}
use Rattle.zslots.specs.SlotsView.{SlotsView, Items}
use Rattle.znodes.specs.index.IndexView.{IdsByPath}
use Rattle.ztree.specs.Tree.{Path, parent_of, children}
use Rattle.ztree.specs.Stale.{may_end}
use Rattle.ztree.proofs.Maps.{same_some, none_some, has_some}
use Rattle.zslots.proofs.Items.{some_there}
use Rattle.znodes.specs.declared.row.Row.{Row}
use Rattle.znodes.specs.NodesView.{NodesView, path_of}
use Rattle.znodes.specs.support.OwnerLists.{OwnerLists, list_of}
use Rattle.znodes.specs.support.Rows.{Key, IsThreaded, nodes_of, places_of, held_of, known_of}
use Rattle.znodes.specs.support.Linking.{with_key, without_child, without_owned, owners_without, without_timed, timed_without}
use Rattle.zslots.specs.declared.limits.TheConstants.{MAX_SLOTS}
use Rattle.znodes.specs.declared.counts.Counts.{Counts}
use Rattle.znodes.specs.support.Counting.{AreCounts, counts_without}
use Rattle.znodes.proofs.Counted.{owned-within, size-within, counts-less}
use Rattle.znodes.proofs.Faces.{face}
use Rattle.znodes.proofs.Few.{parts-many}
use Rattle.znodes.proofs.Linked.{live-row, shown-row, node-shown}
use Rattle.znodes.proofs.Heads.{known-without}
use Rattle.znodes.proofs.Away.{cut, away, rows-away, fewer, owners_after}
use Rattle.znodes.proofs.Taken.{child-counted, owned-counted, linked-away, nodes-away, places-away, held-away}
use Rattle.znodes.proofs.Mortal.{nodes-same, places-same, held-same, mortal-away, timed-counted, linked-unlisted, unlisted-faces}
use Rattle.znodes.proofs.Parents.{parent-of-live, parents-away}
use Rattle.znodes.proofs.nodes.Nodes.take.Goals as goal

pub unreachable-requires : goal.unreachable-requires
unreachable-requires c =
    let path = some_there (path_of c.args.self.now c.args.id) c.requires.live in
    let row = live-row c.self.inside.slots.items c.args.id path.0 (ap (λ w. path_of w c.args.id) c.self.view_is ∙ path.1) in
    none_some row.0 (ap option_copied (sym c.in_default.is) ∙ c.get.ensures ∙ row.1)

-- the counts have the row's node
pub cut-requires-clause-owned : goal.cut-requires-clause-owned
cut-requires-clause-owned c =
    let s = c.self.inside in
    let r = c.in-Some.row.now in
    let there = sym c.in-Some.ensures in
    let shown = shown-row s c.args.self.now c.self.view_is c.args.id r c.requires.live there in
    owned-within (nodes_of s.slots.items s.index.ids) s.counts c.self.invariant.counted r.path r.node (node-shown s.slots.items s.index.ids s.owners c.self.invariant.linked c.args.id r there shown.0)

pub cut-requires-clause-bytes : goal.cut-requires-clause-bytes
cut-requires-clause-bytes c =
    let s = c.self.inside in
    let r = c.in-Some.row.now in
    let there = sym c.in-Some.ensures in
    let shown = shown-row s c.args.self.now c.self.view_is c.args.id r c.requires.live there in
    size-within (nodes_of s.slots.items s.index.ids) s.counts c.self.invariant.counted r.path r.node (node-shown s.slots.items s.index.ids s.owners c.self.invariant.linked c.args.id r there shown.0)

-- the row, in the tree
pub cut_child-requires : goal.cut_child-requires
cut_child-requires c =
    let s = c.self.inside in
    let r = c.in-Some.row.now in
    let there = sym c.in-Some.ensures in
    let shown = shown-row s c.args.self.now c.self.view_is c.args.id r c.requires.live there in
    child-counted s.slots.items s.index.ids s.owners c.args.id r c.self.invariant.linked there shown.0 (c.requires.below_root r.path shown.1)
    r.parent (parent-of-live s.slots.items s.index.ids c.self.invariant.parents c.args.id r there shown.0 (c.requires.below_root r.path shown.1))

pub cut_owned-requires : goal.cut_owned-requires
cut_owned-requires c =
    let s = c.self.inside in
    let r = c.in-Some.row.now in
    let there = sym c.in-Some.ensures in
    let shown = shown-row s c.args.self.now c.self.view_is c.args.id r c.requires.live there in
    owned-counted s.slots.items s.index.ids s.owners c.args.id r c.self.invariant.linked there shown.0

pub cut_timed-requires : goal.cut_timed-requires
cut_timed-requires c =
    let s = c.self.inside in
    let r = c.in-Some.row.now in
    let there = sym c.in-Some.ensures in
    let shown = shown-row s c.args.self.now c.self.view_is c.args.id r c.requires.live there in
    timed-counted s.slots.items s.index.ids s.owners s.timed c.args.id r r.path c.self.invariant.mortal there shown.0

-- what is known at the end
module _ (c : goal.After-cut_timed) where
  abbrev m : Items Row
  m = c.self.inside.slots.items

  abbrev ids : IdsByPath
  ids = c.self.inside.index.ids

  abbrev owners : OwnerLists
  owners = c.self.inside.owners

  abbrev r : Row
  r = c.in-Some.row.now

  there : get m c.args.id ≡ Some r
  there = sym c.in-Some.ensures

  shown : (r.key ≡ None) × (path_of c.args.self.now c.args.id ≡ Some r.path)
  shown = shown-row c.self.inside c.args.self.now c.self.view_is c.args.id r c.requires.live there

  below : r.path ≢ []
  below = c.requires.below_root r.path shown.1

  leaf : children (nodes_of m ids) r.path ≡ []
  leaf = ap (λ (v : NodesView). children v.nodes r.path) c.self.view_is ∙ c.requires.leaf r.path shown.1

  above : r.parent ≡ get ids (parent_of r.path)
  above = parent-of-live m ids c.self.invariant.parents c.args.id r there shown.0 below

  key : (k : Key) × (c.remove-key.result ≡ Some k)
  key =
      has_some c.remove-key.result
      (c.remove-key.ensures.there ∙ ap is_some (c.self.invariant.linked.found c.args.id r there shown.0))

  named : key.0 ≡ r.path
  unfolding key
  named = subst (λ (o : Option Path). IfSome o (λ k. k ≡ r.path)) key.1 c.remove-key.ensures.key

  cut-is : c.cut_child.new.slots.items ≡ cut m ids owners c.args.id r key.0
  cut-is =
      ap (λ (h : SlotsView Row). h.items) c.cut_child.ensures
      ∙ ap (λ o. without_child m o c.args.id) above

  kept-rows : c.set_key.new.slots.items ≡ away m ids owners c.args.id r key.0
  kept-rows =
      let list = list_of owners r.node.owner in
      let owned = ap (λ (h : SlotsView Row). h.items) c.cut_owned.ensures.rows ∙ ap (λ w. without_owned w list c.args.id) cut-is in
      ap (λ (h : SlotsView Row). h.items) c.set_key.ensures ∙ (λ i. with_key (owned i) c.args.id (key.1 i))

  rows : c.cut_timed.new.slots.items ≡ without_timed (away m ids owners c.args.id r key.0) (may_end r.node.term) c.args.id
  rows = ap (λ (h : SlotsView Row). h.items) c.cut_timed.ensures.rows ∙ ap (λ w. without_timed w (may_end r.node.term) c.args.id) kept-rows

  timed : c.cut_timed.new.timed ≡ timed_without (away m ids owners c.args.id r key.0) c.self.inside.timed (may_end r.node.term) c.args.id
  timed = c.cut_timed.ensures.timed ∙ ap (λ w. timed_without w c.self.inside.timed (may_end r.node.term) c.args.id) kept-rows

  index : c.remove-key.new.self.ids ≡ fewer m ids owners c.args.id r key.0
  index = c.remove-key.ensures.ids

  lists : c.cut_owned.new.owners ≡ owners_after m ids owners c.args.id r key.0
  lists = c.cut_owned.ensures.owners ∙ ap (λ w. owners_without w owners r.node.owner (list_of owners r.node.owner) c.args.id) cut-is

pub invariant_of-self : goal.invariant_of-self
invariant_of-self c =
    let linked = linked-away (m c) (ids c) (owners c) c.args.id (r c) (key c).0 c.self.invariant.linked (there c) (shown c).0 (below c) (leaf c) (named c) in
    let gone = away (m c) (ids c) (owners c) c.args.id (r c) (key c).0 in
    let left = fewer (m c) (ids c) (owners c) c.args.id (r c) (key c).0 in
    let after = owners_after (m c) (ids c) (owners c) c.args.id (r c) (key c).0 in
    let all : (Items Row × (IdsByPath × (OwnerLists × (IdList 2 × Counts)))) → Type 0 = λ w. IsThreaded w.0 w.1.0 w.1.1.0 w.1.1.1.0 w.1.1.1.1 in
    subst all (λ i. (sym (rows c) i, (sym (index c) i, (sym (lists c) i, (sym (timed c) i, sym c.cut.ensures i))))) (record {
      linked = linked-unlisted gone left after (may_end (r c).node.term) c.args.id linked;
      mortal = mortal-away (m c) (ids c) (owners c) c.self.inside.timed c.args.id (r c) (key c).0 c.self.invariant.mortal (there c) (shown c).0;
      parents = parents-away (m c) (ids c) (owners c) c.args.id (r c) (key c).0 c.self.invariant.linked (there c) (below c) (leaf c) c.self.invariant.parents;
      counted =
          subst (λ nodes. AreCounts nodes (counts_without c.self.inside.counts (r c).node))
          (sym (nodes-same gone (without_timed gone (may_end (r c).node.term) c.args.id) left (unlisted-faces gone (ids c) (owners c) (may_end (r c).node.term) c.args.id)
          ∙ nodes-away (m c) (ids c) (owners c) c.args.id (r c) (key c).0 c.self.invariant.linked (there c) (shown c).0 (below c) (leaf c) (named c)))
          (counts-less (nodes_of (m c) (ids c)) c.self.inside.counts c.self.invariant.counted (r c).path (r c).node (node-shown (m c) (ids c) (owners c) c.self.invariant.linked c.args.id (r c) (there c) (shown c).0));
      few =
          subst (λ n. n ≤ MAX_SLOTS)
          (sym (parts-many face gone (without_timed gone (may_end (r c).node.term) c.args.id) (unlisted-faces gone (ids c) (owners c) (may_end (r c).node.term) c.args.id)
          ∙ rows-away (m c) (ids c) (owners c) c.args.id (r c) (key c).0 (there c) (list_of (owners c) (r c).node.owner)))
          c.self.invariant.few;
    })

pub returns : goal.returns
returns c = λ path at n node.
    let id = c.args.id in
    let view = c.self.view_is in
    let gone = away (m c) (ids c) (owners c) id (r c) (key c).0 in
    let faces = unlisted-faces gone (ids c) (owners c) (may_end (r c).node.term) id in
    let is_path = same_some (r c).path path (sym (shown c).1 ∙ at) in
    let is_node = same_some (r c).node n
    (sym (node-shown (m c) (ids c) (owners c) c.self.invariant.linked id (r c) (there c) (shown c).0) ∙ ap (λ (v : NodesView). get v.nodes (r c).path) view ∙ ap (option_and_then (get c.args.self.now.nodes)) (sym (shown c).1) ∙ node) in
    record {
      nodes =
          (λ i. nodes_of (rows c i) (index c i))
          ∙ nodes-same gone (without_timed gone (may_end (r c).node.term) id) (fewer (m c) (ids c) (owners c) id (r c) (key c).0) faces
          ∙ nodes-away (m c) (ids c) (owners c) id (r c) (key c).0 c.self.invariant.linked (there c) (shown c).0 (below c) (leaf c) (named c)
          ∙ (λ i. remove (view i).nodes (is_path i));
      places =
          ap places_of (rows c)
          ∙ places-same gone (without_timed gone (may_end (r c).node.term) id) (ids c) faces
          ∙ places-away (m c) (ids c) (owners c) id (r c) (key c).0 c.self.invariant.linked (there c) (shown c).0 (below c) (leaf c) (named c)
          ∙ ap (λ (v : NodesView). remove v.places id) view;
      held =
          ap held_of (rows c)
          ∙ held-same gone (without_timed gone (may_end (r c).node.term) id) (ids c) faces
          ∙ held-away (m c) (ids c) (owners c) id (r c) (key c).0 c.self.invariant.linked (there c) (shown c).0 (below c) (leaf c) (named c)
          ∙ (λ i. insert (view i).held id (is_path i, is_node i));
      owners =
          ap known_of (lists c) ∙ known-without (cut (m c) (ids c) (owners c) id (r c) (key c).0) (owners c) (r c).node.owner id
          ∙ ap (λ (v : NodesView). v.owners) view;
      given =
          ap (λ (h : SlotsView Row). h.given) c.cut_timed.ensures.rows ∙ ap (λ (h : SlotsView Row). h.given) c.set_key.ensures ∙ ap (λ (h : SlotsView Row). h.given) c.cut_owned.ensures.rows
          ∙ ap (λ (h : SlotsView Row). h.given) c.cut_child.ensures ∙ ap (λ (v : NodesView). v.given) view;
      room = subst (λ room. room ≤ c.remove-key.new.self.room) (ap (λ (v : NodesView). v.room) view) c.remove-key.ensures.room;
    }
