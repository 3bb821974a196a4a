use Rattle.std.proofs.Common.{◌≡◌, ◌≤◌, ◌+◌, ◌⊎◌, Option, Some, None, IsSome, sym, ap, ◌∙◌, arith}
use mathlib.Core.Path.{subst}
use Rattle.std.specs.Option.{option_copied, option_copied_mut, option_map_or}
use Rattle.std.specs.FinMap.{get, insert, remove}
use Rattle.zslots.specs.declared.id.Id.{Id}
use Rattle.zslots.specs.declared.limits.TheConstants.{MAX_LENGTH, MAX_SLOTS}
use Rattle.zslots.specs.declared.list.List.{List as IdList}
use Rattle.zslots.specs.SlotsView.{SlotsView, Items, with_items}
use Rattle.zslots.proofs.Items.{some_there}
use Rattle.znodes.specs.index.IndexView.{IdsByPath}
use Rattle.ztree.specs.Tree.{parent_of}
use Rattle.ztree.specs.Stale.{may_end}
use Rattle.ztree.proofs.Maps.{same_some, none_some}
use Rattle.znodes.specs.declared.row.Row.{Row}
use Rattle.znodes.specs.declared.nodes.Nodes.TheInside.{Inside}
use Rattle.znodes.specs.NodesView.{NodesView, CanReturn}
use Rattle.znodes.specs.support.OwnerLists.{OwnerLists, list_of}
use Rattle.znodes.specs.support.Rows.{Key, IsThreaded, nodes_of, places_of, held_of, known_of}
use Rattle.znodes.specs.support.Linking.{with_key, kept_key, with_child, with_owned, with_timed, timed_with, with_parent}
use Rattle.znodes.specs.declared.counts.Counts.{Counts}
use Rattle.znodes.specs.support.Counting.{AreCounts, counts_with}
use Rattle.znodes.proofs.Counted.{counts-more, owned-most, bytes-most}
use Rattle.znodes.proofs.Faces.{face}
use Rattle.znodes.proofs.Few.{ids-few, parts-many}
use Rattle.znodes.proofs.Found.{len-nodes, get-nodes-none}
use Rattle.znodes.proofs.OwnerMaps.{listed}
use Rattle.znodes.proofs.Linked.{taken-row, shown-taken, can-return, parent-named}
use Rattle.znodes.proofs.Heads.{known-with}
use Rattle.znodes.proofs.Back.{put, back, rows-back, more, owners_back, key-kept}
use Rattle.znodes.proofs.Returned.{child-room, owned-room, linked-back, nodes-returned, places-returned, held-returned}
use Rattle.znodes.proofs.Mortal.{nodes-same, places-same, held-same, mortal-back, timed-room, linked-listed, listed-faces}
use Rattle.znodes.proofs.Parents.{named-faces, linked-named, mortal-named, parents-back}
use Rattle.znodes.proofs.nodes.Nodes.put_back.Goals.{in-Some-get_mut, in_default-get_mut}
use Rattle.znodes.proofs.nodes.Nodes.put_back.Goals as goal

pub unreachable-requires : goal.unreachable-requires
unreachable-requires c =
    let t = some_there (get c.args.self.now.held c.args.id) c.requires.held in
    let row = taken-row c.self.inside.slots.items c.args.id t.0 (ap (λ (w : NodesView). get w.held c.args.id) c.self.view_is ∙ t.1) in
    none_some row.0 (ap option_copied (sym c.in_default.is) ∙ c.get.ensures ∙ row.1)

-- there is room in the counts
pub put-requires-clause-owned : goal.put-requires-clause-owned
put-requires-clause-owned c =
    let s = c.self.inside in
    let most = owned-most (nodes_of s.slots.items s.index.ids) s.counts c.self.invariant.counted in
    let same = len-nodes s.slots.items s.index.ids s.owners c.self.invariant.linked in
    let few = ids-few s.slots.items s.index.ids s.owners c.self.invariant.linked in
    let all = c.self.invariant.few in
    omega (arith, most, same, few, all)

pub put-requires-clause-bytes : goal.put-requires-clause-bytes
put-requires-clause-bytes c =
    let s = c.self.inside in
    let most = bytes-most (nodes_of s.slots.items s.index.ids) s.counts c.self.invariant.counted in
    let same = len-nodes s.slots.items s.index.ids s.owners c.self.invariant.linked in
    let few = ids-few s.slots.items s.index.ids s.owners c.self.invariant.linked in
    let all = c.self.invariant.few in
    omega (arith, most, same, few, all)

pub put_child-requires : goal.put_child-requires
put_child-requires c =
    let s = c.self.inside in
    let r = c.in-Some.row.now in
    let there = sym c.in-Some.ensures in
    let shown = shown-taken s c.args.self.now c.self.view_is c.args.id r c.requires.held there in
    child-room s.slots.items s.index.ids s.owners c.args.id r shown.0 c.self.invariant.linked there shown.1 MAX_LENGTH c.keeps_countable.ensures
    (Some c.args.parent) (sym (parent-named s c.args.self.now c.self.view_is c.self.invariant.linked c.args.parent (parent_of r.path) (c.requires.under (r.path, r.node) shown.2)))

pub put_owned-requires : goal.put_owned-requires
put_owned-requires c =
    let s = c.self.inside in
    let r = c.in-Some.row.now in
    let there = sym c.in-Some.ensures in
    let shown = shown-taken s c.args.self.now c.self.view_is c.args.id r c.requires.held there in
    owned-room s.slots.items s.index.ids s.owners c.args.id r shown.0 c.self.invariant.linked there shown.1 MAX_LENGTH c.keeps_countable.ensures
    (list_of s.owners r.node.owner) (λ list e. listed s.owners r.node.owner list e)

pub put_timed-requires : goal.put_timed-requires
put_timed-requires c =
    let s = c.self.inside in
    let r = c.in-Some.row.now in
    let there = sym c.in-Some.ensures in
    let shown = shown-taken s c.args.self.now c.self.view_is c.args.id r c.requires.held there in
    timed-room s.slots.items s.index.ids s.owners s.timed c.args.id r shown.0 c.self.invariant.mortal there shown.1 MAX_LENGTH c.keeps_countable.ensures

-- it has a key
pub unreachable-requires-in-None : goal.unreachable-requires-in-None
unreachable-requires-in-None c =
    let s = c.self.inside in
    let id = c.args.id in
    let r = c.in-Some.row.now in
    let there = sym c.in-Some.ensures in
    let shown = shown-taken s c.args.self.now c.self.view_is id r c.requires.held there in
    let list = list_of s.owners r.node.owner in
    let parent = sym (parent-named s c.args.self.now c.self.view_is c.self.invariant.linked c.args.parent (parent_of r.path) (c.requires.under (r.path, r.node) shown.2)) in
    let put-is = ap (λ (h : SlotsView Row). h.items) c.put_child.ensures ∙ ap (λ o. with_child s.slots.items o id) parent in
    let owned = ap (λ (h : SlotsView Row). h.items) c.put_owned.ensures.rows ∙ ap (λ w. with_owned w list id) put-is in
    none_some shown.0
    (sym c.in-None.is ∙ c.take_key.ensures.key ∙ ap (λ w. kept_key w id) owned ∙ key-kept s.slots.items s.index.ids s.owners id r there list ∙ shown.1)

-- the fields with a row beneath another
abbrev beneath : Id → Id → Inside → Inside
beneath id parent s = record s { slots = with_items s.slots (with_parent s.slots.items id parent) }

-- what is known at the end
module _ (c : goal.Joined-get_mut) where
  abbrev m : Items Row
  m = c.self.inside.slots.items

  abbrev ids : IdsByPath
  ids = c.self.inside.index.ids

  abbrev owners : OwnerLists
  owners = c.self.inside.owners

  abbrev r : Row
  r = c.in-Some.row.now

  there : get m c.args.id ≡ Some r
  there = sym c.in-Some.ensures

  shown : (key : Key) × (r.key ≡ Some key) × (get c.args.self.now.held c.args.id ≡ Some (r.path, r.node))
  shown = shown-taken c.self.inside c.args.self.now c.self.view_is c.args.id r c.requires.held there

  fits : CanReturn c.args.self.now (r.path, r.node)
  fits = c.requires.fits (r.path, r.node) shown.2

  can : (get ids r.path ≡ None) × ((p : Id) × (get ids (parent_of r.path) ≡ Some p)) × ((r.node.owner ≡ 0) ⊎ IsSome (get owners r.node.owner))
  can = can-return c.self.inside c.args.self.now c.self.view_is c.self.invariant.linked r fits

  put-is : c.put_child.new.slots.items ≡ put m ids owners c.args.id r
  put-is =
      ap (λ (h : SlotsView Row). h.items) c.put_child.ensures
      ∙ ap (λ o. with_child m o c.args.id) (sym (parent-named c.self.inside c.args.self.now c.self.view_is c.self.invariant.linked c.args.parent (parent_of r.path) (c.requires.under (r.path, r.node) shown.2)))

  owned : c.put_owned.new.slots.items ≡ with_owned (put m ids owners c.args.id r) (list_of owners r.node.owner) c.args.id
  owned = ap (λ (h : SlotsView Row). h.items) c.put_owned.ensures.rows ∙ ap (λ w. with_owned w (list_of owners r.node.owner) c.args.id) put-is

  back-rows : c.take_key.new.slots.items ≡ back m ids owners c.args.id r
  back-rows = ap (λ (h : SlotsView Row). h.items) c.take_key.ensures.rows ∙ ap (λ w. with_key w c.args.id None) owned

  abbrev listed_rows : Items Row
  listed_rows = with_timed (back m ids owners c.args.id r) c.self.inside.timed (may_end r.node.term) c.args.id

  -- with the row in list 2, where ticks may remove its node
  listed_slots : c.put_timed.new.slots ≡ with_items c.take_key.new.slots (with_timed c.take_key.new.slots.items c.self.inside.timed (may_end r.node.term) c.args.id)
  listed_slots = c.put_timed.ensures.rows

  listed_timed : c.put_timed.new.timed ≡ timed_with c.self.inside.timed (may_end r.node.term) c.args.id
  listed_timed = c.put_timed.ensures.timed

  abbrev listed_end : SlotsView Row → IdList 2 → Inside
  listed_end slots timed = record { slots = slots; index = c.insert.new.self; owners = c.put_owned.new.owners; timed = timed; counts = c.put.new.self; alloc = c.self.inside.alloc }

  -- and with its parent
  named_end : c.match-get_mut.self-inside ≡ beneath c.args.id c.args.parent (listed_end c.put_timed.new.slots c.put_timed.new.timed)
  named_end =
      let s = listed_end c.put_timed.new.slots c.put_timed.new.timed in
      let written : Option Row → Inside = λ o. record s { slots = with_items s.slots (option_map_or (λ (x : Row). insert s.slots.items c.args.id (record x { parent = Some c.args.parent })) o s.slots.items) } in
      elim c.match-get_mut.branch [
        | in-Some-get_mut w ↦ w.self-inside-is ∙ ap written (sym (ap option_copied_mut w.in-Some-get_mut.is) ∙ c.get_mut.follows)
        | in_default-get_mut w ↦ w.self-inside-is ∙ ap written (sym (ap option_copied_mut w.in_default-get_mut.is) ∙ c.get_mut.follows)
      ]

  ended : c.match-get_mut.self-inside ≡ beneath c.args.id c.args.parent (record {
    slots = with_items c.take_key.new.slots (with_timed c.take_key.new.slots.items c.self.inside.timed (may_end r.node.term) c.args.id);
    index = c.insert.new.self;
    owners = c.put_owned.new.owners;
    timed = timed_with c.self.inside.timed (may_end r.node.term) c.args.id;
    counts = c.put.new.self;
    alloc = c.self.inside.alloc;
  })
  ended = named_end ∙ (λ i. beneath c.args.id c.args.parent (listed_end (listed_slots i) (listed_timed i)))

  rows : c.match-get_mut.self-inside.slots.items ≡ with_parent listed_rows c.args.id c.args.parent
  rows =
      ap (λ (s : Inside). s.slots.items) ended
      ∙ ap (λ w. with_parent (with_timed w c.self.inside.timed (may_end r.node.term) c.args.id) c.args.id c.args.parent) back-rows

  over : get ids (parent_of r.path) ≡ Some c.args.parent
  over = parent-named c.self.inside c.args.self.now c.self.view_is c.self.invariant.linked c.args.parent (parent_of r.path) (c.requires.under (r.path, r.node) shown.2)

  key : c.in-Some-take_key.key ≡ shown.0
  key =
      same_some c.in-Some-take_key.key shown.0
      (sym c.in-Some-take_key.is ∙ c.take_key.ensures.key ∙ ap (λ w. kept_key w c.args.id) owned ∙ key-kept m ids owners c.args.id r there (list_of owners r.node.owner) ∙ shown.1)

  index : c.match-get_mut.self-inside.index.ids ≡ more m ids owners c.args.id r
  index = ap (λ (s : Inside). s.index.ids) ended ∙ c.insert.ensures.ids ∙ ap (λ (k : Key). insert ids k c.args.id) key ∙ ap (λ q. insert ids q c.args.id) (c.self.invariant.linked.keyed c.args.id r there shown.0 shown.1).0

  lists : c.match-get_mut.self-inside.owners ≡ owners_back m ids owners c.args.id r
  lists = ap (λ (s : Inside). s.owners) ended ∙ c.put_owned.ensures.owners

  counts : c.match-get_mut.self-inside.counts ≡ counts_with c.self.inside.counts r.node
  counts = ap (λ (s : Inside). s.counts) ended ∙ c.put.ensures.counts

pub invariant_of-self : goal.invariant_of-self
invariant_of-self c =
    let ends = can c in
    let linked = linked-back (m c) (ids c) (owners c) c.args.id (r c) (shown c).0 c.self.invariant.linked (there c) (shown c).1 (fits c).below_root ends.0 ends.1.0 ends.1.1 ends.2 in
    let here = back (m c) (ids c) (owners c) c.args.id (r c) in
    let later = more (m c) (ids c) (owners c) c.args.id (r c) in
    let lists_later = owners_back (m c) (ids c) (owners c) c.args.id (r c) in
    let all : (Items Row × (IdsByPath × (OwnerLists × (IdList 2 × Counts)))) → Type 0 = λ w. IsThreaded w.0 w.1.0 w.1.1.0 w.1.1.1.0 w.1.1.1.1 in
    subst all (λ i. (sym (rows c) i, (sym (index c) i, (sym (lists c) i, (sym (ap (λ (s : Inside). s.timed) (ended c)) i, sym (counts c) i))))) (record {
      linked = linked-named (listed_rows c) later lists_later c.args.id c.args.parent (linked-listed here later lists_later c.self.inside.timed (may_end (r c).node.term) c.args.id linked);
      mortal =
          mortal-named (listed_rows c) later lists_later c.args.id c.args.parent (timed_with c.self.inside.timed (may_end (r c).node.term) c.args.id)
          (mortal-back (m c) (ids c) (owners c) c.self.inside.timed c.args.id (r c) (shown c).0 c.self.invariant.mortal (there c) (shown c).1);
      parents = parents-back (m c) (ids c) (owners c) c.self.inside.timed c.args.id (r c) c.self.invariant.linked (there c) (fits c).below_root ends.0 c.args.parent (over c) c.self.invariant.parents;
      counted =
          subst (λ nodes. AreCounts nodes (counts_with c.self.inside.counts (r c).node))
          (sym (nodes-same (listed_rows c) (with_parent (listed_rows c) c.args.id c.args.parent) later (named-faces (listed_rows c) (ids c) (owners c) c.args.id c.args.parent)
          ∙ nodes-same here (listed_rows c) later (listed-faces here (ids c) (owners c) c.self.inside.timed (may_end (r c).node.term) c.args.id)
          ∙ nodes-returned (m c) (ids c) (owners c) c.args.id (r c) (shown c).0 c.self.invariant.linked (there c) (shown c).1 (fits c).below_root ends.0 ends.1.0 ends.1.1 ends.2))
          (counts-more (nodes_of (m c) (ids c)) c.self.inside.counts c.self.invariant.counted (r c).path (r c).node (get-nodes-none (m c) (ids c) (r c).path ends.0) c.put.ensures.small);
      few =
          subst (λ n. n ≤ MAX_SLOTS)
          (sym (parts-many face (listed_rows c) (with_parent (listed_rows c) c.args.id c.args.parent) (named-faces (listed_rows c) (ids c) (owners c) c.args.id c.args.parent)
          ∙ parts-many face here (listed_rows c) (listed-faces here (ids c) (owners c) c.self.inside.timed (may_end (r c).node.term) c.args.id)
          ∙ rows-back (m c) (ids c) (owners c) c.args.id (r c) (there c) (list_of (owners c) (r c).node.owner)))
          c.self.invariant.few;
    })

pub returns : goal.returns
returns c = λ t at.
    let id = c.args.id in
    let view = c.self.view_is in
    let ends = can c in
    let here = back (m c) (ids c) (owners c) id (r c) in
    let named = named-faces (listed_rows c) (ids c) (owners c) id c.args.parent in
    let faces = listed-faces here (ids c) (owners c) c.self.inside.timed (may_end (r c).node.term) id in
    let same = same_some ((r c).path, (r c).node) t (sym (shown c).2 ∙ at) in
    record {
      nodes =
          (λ i. nodes_of (rows c i) (index c i))
          ∙ nodes-same (listed_rows c) (with_parent (listed_rows c) id c.args.parent) (more (m c) (ids c) (owners c) id (r c)) named
          ∙ nodes-same here (with_timed here c.self.inside.timed (may_end (r c).node.term) id) (more (m c) (ids c) (owners c) id (r c)) faces
          ∙ nodes-returned (m c) (ids c) (owners c) id (r c) (shown c).0 c.self.invariant.linked (there c) (shown c).1 (fits c).below_root ends.0 ends.1.0 ends.1.1 ends.2
          ∙ (λ i. insert (view i).nodes (same i).0 (same i).1);
      places =
          ap places_of (rows c)
          ∙ places-same (listed_rows c) (with_parent (listed_rows c) id c.args.parent) (ids c) named
          ∙ places-same here (with_timed here c.self.inside.timed (may_end (r c).node.term) id) (ids c) faces
          ∙ places-returned (m c) (ids c) (owners c) id (r c) (shown c).0 c.self.invariant.linked (there c) (shown c).1 (fits c).below_root ends.0 ends.1.0 ends.1.1 ends.2
          ∙ (λ i. insert (view i).places id (same i).0);
      held =
          ap held_of (rows c)
          ∙ held-same (listed_rows c) (with_parent (listed_rows c) id c.args.parent) (ids c) named
          ∙ held-same here (with_timed here c.self.inside.timed (may_end (r c).node.term) id) (ids c) faces
          ∙ held-returned (m c) (ids c) (owners c) id (r c) (shown c).0 c.self.invariant.linked (there c) (shown c).1 (fits c).below_root ends.0 ends.1.0 ends.1.1 ends.2
          ∙ ap (λ (v : NodesView). remove v.held id) view;
      owners = ap known_of (lists c) ∙ known-with (owners c) (r c).node.owner id ∙ ap (λ (v : NodesView). v.owners) view;
      given =
          ap (λ (s : Inside). s.slots.given) (ended c) ∙ ap (λ (h : SlotsView Row). h.given) c.take_key.ensures.rows ∙ ap (λ (h : SlotsView Row). h.given) c.put_owned.ensures.rows
          ∙ ap (λ (h : SlotsView Row). h.given) c.put_child.ensures ∙ ap (λ (v : NodesView). v.given) view;
      room =
          subst (λ room. room ≤ c.match-get_mut.self-inside.index.room + 1) (ap (λ (v : NodesView). v.room) view)
          (subst (λ room. c.self.inside.index.room ≤ room + 1) (sym (ap (λ (s : Inside). s.index.room) (ended c))) c.insert.ensures.room);
    }
