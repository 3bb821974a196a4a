-- A row that was put in under a new Id can go beneath a live node, and then a node was added.
use Rattle.std.proofs.Common.{◌≡◌, ◌≢◌, ◌⊎◌, ◌<◌, ◌≤◌, ◌+◌, [], true, false, Some, None, IsSome, is_some, refl, sym, ap, ◌∙◌, arith}
use mathlib.Core.Path.{subst}
use Rattle.std.specs.Option.{option_and_then}
use Rattle.std.specs.FinMap as finite
use Rattle.std.specs.FinMap.{get, insert, remove}
use Rattle.zslots.specs.declared.id.Id.{Id}
use Rattle.zslots.specs.declared.limits.TheConstants.{MAX_SLOTS}
use Rattle.zslots.specs.SlotsView.{SlotsView, Items, IsNew}
use Rattle.zslots.proofs.Maps.{id_cmp_total, id_cmp_same}
use Rattle.ztree.specs.declared.node.Node.{Node}
use Rattle.ztree.specs.Tree.{Path, parent_of, has_node}
use Rattle.ztree.proofs.Maps as maps
use Rattle.znodes.specs.declared.nodes.Nodes.TheInside.{Inside}
use Rattle.znodes.specs.NodesView.{NodesView, Taken, CanReturn, Returns, Adds, IsKnownOwner, SameButRoom, path_of}
use Rattle.znodes.specs.declared.row.Row.{Row}
use Rattle.znodes.specs.support.Rows.{Key, IsLinked, IsThreaded, lone_row, live_path, taken_row, nodes_of, places_of, held_of, known_of}
use Rattle.znodes.specs.support.Counting.{AreCounts}
use Rattle.znodes.specs.support.Fields.{view_of}
use Rattle.znodes.specs.support.Linking.{Holds}
use Rattle.znodes.proofs.Found.{has_node-index}
use Rattle.znodes.proofs.Views.{get-places, get-held, remove-is}
use Rattle.znodes.proofs.OneRow.{linked-joined, mortal-joined, parents-joined, nodes-joined, places-joined, held-joined}
use Rattle.znodes.proofs.Linked.{parent-named}

-- a row that comes in under a new Id as if its node had been taken away
module _ (s : Inside) (threaded : IsThreaded s.slots.items s.index.ids s.owners s.timed s.counts) (after : SlotsView Row) (id : Id) (path : Path) (node : Node)
    (key : Key) (same : key ≡ path) (new : IsNew s.slots id) (items : after.items ≡ insert s.slots.items id (lone_row s.alloc path node (Some key))) where
  abbrev m : Items Row
  m = s.slots.items

  abbrev x : Row
  x = lone_row s.alloc path node (Some key)

  pub threaded-joined : finite.len m < MAX_SLOTS → IsThreaded after.items s.index.ids s.owners s.timed s.counts
  threaded-joined room = subst (λ w. IsThreaded w s.index.ids s.owners s.timed s.counts) (sym items) (record {
    linked = linked-joined m s.index.ids s.owners id x key threaded.linked new.1 refl same refl;
    mortal = mortal-joined m s.index.ids s.owners id x key threaded.linked new.1 refl same refl s.timed threaded.mortal;
    parents = parents-joined m s.index.ids s.owners id x key threaded.linked new.1 refl same refl threaded.parents;
    counted = subst (λ nodes. AreCounts nodes s.counts) (sym (nodes-joined m s.index.ids s.owners id x key threaded.linked new.1 refl same refl)) threaded.counted;
    few = maps.len-insert-most id_cmp_total id_cmp_same m id x MAX_SLOTS room;
  })

  pub joined : after.given ≡ s.slots.given + 1 → Holds (view_of s) (view_of (record s { slots = after })) id (path, node)
  joined given =
      let nodes = ap (λ w. nodes_of w s.index.ids) items ∙ nodes-joined m s.index.ids s.owners id x key threaded.linked new.1 refl same refl in
      let places = ap places_of items ∙ places-joined m s.index.ids s.owners id x key threaded.linked new.1 refl same refl in
      let held = ap held_of items ∙ held-joined m s.index.ids s.owners id x key threaded.linked new.1 refl same refl in
      record {
        free = get-places m id ∙ ap (option_and_then live_path) new.1;
        unheld = get-held m id ∙ ap (option_and_then taken_row) new.1;
        next = new.0;
        new_is = λ i. record {
          nodes = nodes i;
          places = places i;
          held = held i;
          owners = known_of s.owners;
          given = given i;
          room = s.index.room;
        };
      }

pub parent-has_node : (s : Inside) (v : NodesView) → view_of s ≡ v → IsLinked s.slots.items s.index.ids s.owners → (p : Id) (path : Path) → path_of v p ≡ Some path → has_node v.nodes path ≡ true
parent-has_node s v view kept p path e =
    ap (λ (w : NodesView). has_node w.nodes path) (sym view) ∙ has_node-index s.slots.items s.index.ids s.owners kept path
    ∙ ap is_some (parent-named s v view kept p path e)

module _ (v w held : NodesView) (id parent : Id) (path : Path) (node : Node) (same : SameButRoom v w) (holds : Holds w held id (path, node)) where
  abbrev t : Taken
  t = (path, node)

  pub held-at : get held.held id ≡ Some t
  held-at = ap (λ (u : NodesView). get u.held id) holds.new_is ∙ maps.get-insert-here id_cmp_total id_cmp_same w.held id t

  it : (u : Taken) → get held.held id ≡ Some u → t ≡ u
  it u at = maps.same_some t u (sym held-at ∙ at)

  nodes : held.nodes ≡ v.nodes
  nodes = ap (λ (u : NodesView). u.nodes) holds.new_is ∙ ap (λ (u : NodesView). u.nodes) same

  places : held.places ≡ v.places
  places = ap (λ (u : NodesView). u.places) holds.new_is ∙ ap (λ (u : NodesView). u.places) same

  owners : held.owners ≡ v.owners
  owners = ap (λ (u : NodesView). u.owners) holds.new_is ∙ ap (λ (u : NodesView). u.owners) same

  pub fits : path ≢ [] → has_node v.nodes path ≡ false → has_node v.nodes (parent_of path) ≡ true → IsKnownOwner v node.owner → (u : Taken) → get held.held id ≡ Some u → CanReturn held u
  fits below free parent_there known u at = subst (CanReturn held) (it u at) (record {
    below_root = below;
    free = ap (λ n. has_node n path) nodes ∙ free;
    parent = ap (λ n. has_node n (parent_of path)) nodes ∙ parent_there;
    owner = subst (λ o. (node.owner ≡ 0) ⊎ IsSome (get o node.owner)) (sym owners) known;
  })

  pub under : path_of v parent ≡ Some (parent_of path) → (u : Taken) → get held.held id ≡ Some u → path_of held parent ≡ Some (parent_of u.0)
  under at_parent u at = ap (λ p. get p parent) places ∙ at_parent ∙ ap (λ (x : Taken). Some (parent_of x.0)) (it u at)

  unheld : get v.held id ≡ None
  unheld = ap (λ (u : NodesView). get u.held id) (sym same) ∙ holds.unheld

  removed : remove held.held id ≡ v.held
  removed =
      ap (λ (u : NodesView). remove u.held id) holds.new_is
      ∙ sym (remove-is id_cmp_total id_cmp_same (insert w.held id t) w.held id (λ q other. sym (maps.get-insert-elsewhere id_cmp_total id_cmp_same w.held id t q other)) holds.unheld)
      ∙ ap (λ (u : NodesView). u.held) same

  pub added : (new : NodesView) → v.room ≤ w.room → ((u : Taken) → get held.held id ≡ Some u → Returns held new id u) → Adds v new id path node
  added new grows back =
      let r = back t held-at in
      let room : held.room ≡ w.room = ap (λ (u : NodesView). u.room) holds.new_is in
      let left = r.room in
      record {
        free = ap (λ (u : NodesView). path_of u id) (sym same) ∙ holds.free;
        unheld = unheld;
        next = holds.next ∙ ap (λ (u : NodesView). u.given) same;
        nodes = r.nodes ∙ ap (λ n. insert n path node) nodes;
        places = r.places ∙ ap (λ p. insert p id path) places;
        held = r.held ∙ removed;
        owners = r.owners ∙ owners;
        given = r.given ∙ ap (λ (u : NodesView). u.given) holds.new_is ∙ ap (λ (u : NodesView). u.given + 1) same;
        room = omega (arith, room, left, grows);
      }
