use Rattle.std.proofs.Common.{◌≡◌, ◌≢◌, ◌<◌, ◌+◌, ℕ, Bool, true, false, [], Option, Some, sym, ap, subst, ◌∙◌, arith}
use Rattle.std.specs.Prelude.{is_some, if◌then◌else◌}
use Rattle.std.specs.Option.{option_and_then, option_copied, option_map}
use Rattle.std.specs.FinMap as finite
use mir.Val.{bool_byte}
use Rattle.zpath.specs.Grammar.{IsPath}
use Rattle.zslots.specs.declared.id.Id.{Id}
use Rattle.ztree.specs.declared.limits.TheConstants.{COUNTER_BOUND}
use Rattle.ztree.specs.declared.node.Node.{Node}
use Rattle.ztree.specs.Tree.{Path, Nodes, parent_of, has_node, new_node, with_node, with_child}
use Rattle.ztree.specs.Lawful.{IsPersistent, IsOwner, HasOneEnd}
use Rattle.ztree.proofs.Nodes.{get-insert-other, parent_is_other, changed_at-some}
use Rattle.znodes.specs.NodesView.{NodesView, Adds, node_with_marks}
use Rattle.zstore.specs.declared.store.Store.TheInside.{Inside}
use Rattle.zstore.specs.declared.undo.Undo.TheVariants.{Added, Marked}
use Rattle.zstore.specs.StoreView.{StoreView, path_of, node_of, mark_left}
use Rattle.zstore.specs.support.Parts.{with_child_at}
use Rattle.zstore.specs.support.Undoing.{Places, Notes, notes_of, add_note, nodes_noted}
use Rattle.zstore.specs.support.Stored.{tree_of, mark_of, held_by, IsStored}
use Rattle.zstore.proofs.ids.Naming.{still_named, mark_left_twice}
use Rattle.zstore.proofs.parts.Noted.{noted_marked}
use Rattle.zstore.proofs.parts.Noting.{marks_back, marks_held, marks_stored}
use Rattle.zstore.proofs.parts.Steps.{added_back, added_held, added_stored}
use Rattle.zstore.proofs.store.Store.add.Goals as goal

clash : false ≡ true → ⊥
clash e = cc

-- a sequential child is one more
byte : (b : Bool) (n : ℕ) → n ≡ bool_byte b → n ≡ (if b then 1 else 0)
byte true n is = is
byte false n is = is

pub note-requires : goal.note-requires
note-requires c =
    let s = c.self.inside in
    let free = ap (λ (h : StoreView). has_node h.tree.nodes c.args.path) c.self.view_is
    ∙ c.requires.free in
    added_held s.nodes c.add.new.self s.sessions s.time s.zxid s.limits (notes_of s.log) c.self.invariant
    c.in_ok-id.id c.args.path c.new-node.result c.in_ok-id.ensures.added free c.requires.below_root

-- what holds once the node is there: the node above it is what it was
module _ (s : Inside) (h : StoreView) (view : held_by s ≡ h) (mid new : NodesView)
    (notes : Option Notes) (id parent : Id) (path : Path) (n : Node) (adds : Adds s.nodes mid id path n)
    (noted : notes ≡ add_note (Added id) (notes_of s.log))
    (kept : new ≡ nodes_noted (Added id) (notes_of s.log) mid) (below : path ≢ [])
    (live : path_of h parent ≡ Some (parent_of path)) where
  was : finite.get s.nodes.places parent ≡ Some (parent_of path)
  was = ap (λ (x : StoreView). path_of x parent) view ∙ live

  nodes : new.nodes ≡ finite.insert s.nodes.nodes path n
  nodes = ap (λ (v : NodesView). v.nodes) kept ∙ adds.nodes

  at : finite.get new.places parent ≡ Some (parent_of path)
  at = ap (λ (v : NodesView). finite.get v.places parent) kept
      ∙ ap (λ (places : Places). finite.get places parent) adds.places
      ∙ still_named s.nodes.places id parent path (parent_of path) adds.free was

  above : node_of h parent ≡ option_and_then (finite.get new.nodes) (finite.get new.places parent)
  above =
      ap (λ (x : StoreView). node_of x parent) (sym view)
      ∙ ap (option_and_then (finite.get s.nodes.nodes)) was
      ∙ sym (get-insert-other s.nodes.nodes path n (parent_of path) (parent_is_other path below))
      ∙ sym (ap (λ (m : Nodes). finite.get m (parent_of path)) nodes)
      ∙ sym (ap (option_and_then (finite.get new.nodes)) at)

  stored : IsStored (notes_of s.log) s.nodes s.sessions s.time s.zxid s.limits →
      has_node h.tree.nodes path ≡ false → IsPersistent (node_of h parent) →
      IsOwner h.tree.sessions n.owner → HasOneEnd n → finite.len h.tree.nodes < h.tree.limits.nodes →
      IsPath path → IsStored notes new s.sessions s.time s.zxid s.limits
  stored before free persistent owner one_end few is_path =
      rw (noted, kept) (
      added_stored s.nodes mid s.sessions s.time s.zxid s.limits (notes_of s.log) before id path n adds
      (ap (λ (x : StoreView). has_node x.tree.nodes path) view ∙ free) below
      (subst (λ o. IsPersistent (option_and_then (finite.get s.nodes.nodes) o)) was
      (subst (λ (x : StoreView). IsPersistent (node_of x parent)) (sym view) persistent))
      (subst (λ (x : StoreView). IsOwner x.tree.sessions n.owner) (sym view) owner) one_end
      (subst (λ (x : StoreView). finite.len x.tree.nodes < x.tree.limits.nodes) (sym view) few) is_path)

pub unreachable-requires : goal.unreachable-requires
unreachable-requires c =
    let at =
    at c.self.inside c.args.self.now c.self.view_is c.add.new.self c.note.new.nodes
    (notes_of c.note.new.self) c.in_ok-id.id c.args.parent c.args.path c.new-node.result
    c.in_ok-id.ensures.added c.note.ensures.notes c.note.ensures.nodes c.requires.below_root
    c.requires.live in
    clash (sym (ap is_some c.in_default.is) ∙ c.node.ensures.live ∙ ap is_some at)

pub overflow_add-marks : goal.overflow_add-marks
overflow_add-marks c =
    let room =
    c.requires.counters c.in-Some.above.now
    (above c.self.inside c.args.self.now c.self.view_is c.add.new.self c.note.new.nodes
    (notes_of c.note.new.self) c.in_ok-id.id c.args.parent c.args.path c.new-node.result
    c.in_ok-id.ensures.added c.note.ensures.notes c.note.ensures.nodes c.requires.below_root
    c.requires.live
    ∙ sym c.node.ensures.value ∙ ap option_copied c.in-Some.is) in
    record { fits = omega (arith, room.0) }

pub overflow_add-marks-2 : goal.overflow_add-marks-2
overflow_add-marks-2 c =
    let room =
    c.requires.counters c.in-Some.above.now
    (above c.self.inside c.args.self.now c.self.view_is c.add.new.self c.note.new.nodes
    (notes_of c.note.new.self) c.in_ok-id.id c.args.parent c.args.path c.new-node.result
    c.in_ok-id.ensures.added c.note.ensures.notes c.note.ensures.nodes c.requires.below_root
    c.requires.live
    ∙ sym c.node.ensures.value ∙ ap option_copied c.in-Some.is) in
    let step = byte c.args.sequential c.from.result c.from.ensures in
    let fits = subst (λ n. c.in-Some.above.now.seq + n < COUNTER_BOUND) (sym step) room.1 in
    record { fits = omega (arith, fits) }

pub note-requires-2 : goal.note-requires-2
note-requires-2 c =
    let s = c.self.inside in
    let put = c.put_marks-before in
    let at =
    at c.self.inside c.args.self.now c.self.view_is c.add.new.self c.note.new.nodes
    (notes_of c.note.new.self) c.in_ok-id.id c.args.parent c.args.path c.new-node.result
    c.in_ok-id.ensures.added c.note.ensures.notes c.note.ensures.nodes c.requires.below_root
    c.requires.live in
    let made = c.new-node.ensures in
    let stored =
    stored c.self.inside c.args.self.now c.self.view_is c.add.new.self c.note.new.nodes
    (notes_of c.note.new.self) c.in_ok-id.id c.args.parent c.args.path c.new-node.result
    c.in_ok-id.ensures.added c.note.ensures.notes c.note.ensures.nodes c.requires.below_root
    c.requires.live
    c.self.invariant c.requires.free c.requires.persistent
    (subst (λ (n : Node). IsOwner c.args.self.now.tree.sessions n.owner) (sym made) c.requires.owner)
    (subst HasOneEnd (sym made) c.requires.one_end) c.requires.few c.keeps_its_form.ensures in
    marks_held c.note.new.nodes put.new.self s.sessions s.time s.zxid s.limits (notes_of c.note.new.self) stored
    c.args.parent (ap is_some at) _ put.result put.ensures.written put.ensures.before

pub invariant_of-self-2 : goal.invariant_of-self-2
invariant_of-self-2 c =
    let s = c.self.inside in
    let put = c.put_marks-before in
    let at =
    at c.self.inside c.args.self.now c.self.view_is c.add.new.self c.note.new.nodes
    (notes_of c.note.new.self) c.in_ok-id.id c.args.parent c.args.path c.new-node.result
    c.in_ok-id.ensures.added c.note.ensures.notes c.note.ensures.nodes c.requires.below_root
    c.requires.live in
    let made = c.new-node.ensures in
    let stored =
    stored c.self.inside c.args.self.now c.self.view_is c.add.new.self c.note.new.nodes
    (notes_of c.note.new.self) c.in_ok-id.id c.args.parent c.args.path c.new-node.result
    c.in_ok-id.ensures.added c.note.ensures.notes c.note.ensures.nodes c.requires.below_root
    c.requires.live
    c.self.invariant c.requires.free c.requires.persistent
    (subst (λ (n : Node). IsOwner c.args.self.now.tree.sessions n.owner) (sym made) c.requires.owner)
    (subst HasOneEnd (sym made) c.requires.one_end) c.requires.few c.keeps_its_form.ensures in
    rw (c.note-2.ensures.notes, c.note-2.ensures.nodes)
    (marks_stored c.note.new.nodes put.new.self s.sessions s.time s.zxid s.limits (notes_of c.note.new.self) stored
    c.args.parent (ap is_some at) _ put.result put.ensures.written put.ensures.before)

pub returns-clause-added : goal.returns-clause-added
returns-clause-added c =
    let s = c.self.inside in
    let over = parent_of c.args.path in
    let put = c.put_marks-before in
    let above = c.in-Some.above.now in
    let old = c.note.new.nodes.nodes in
    let at =
    at c.self.inside c.args.self.now c.self.view_is c.add.new.self c.note.new.nodes
    (notes_of c.note.new.self) c.in_ok-id.id c.args.parent c.args.path c.new-node.result
    c.in_ok-id.ensures.added c.note.ensures.notes c.note.ensures.nodes c.requires.below_root
    c.requires.live in
    let found : finite.get old over ≡ Some above =
    sym (ap (option_and_then (finite.get old)) at) ∙ sym c.node.ensures.value
    ∙ ap option_copied c.in-Some.is in
    let step = byte c.args.sequential c.from.result c.from.ensures in
    let marked : (i : 𝕀) → Node = λ i. record above {
      pzxid = c.next-2.ensures i;
      cversion = above.cversion + 1;
      seq = above.seq + step i;
    } in
    let made =
    c.new-node.ensures
    ∙ ap (λ z. new_node c.args.bytes c.args.owner c.args.term z s.time) c.next.ensures in
    ap (λ (m : Nodes). tree_of m s.sessions s.time s.zxid s.limits)
    (ap (λ (v : NodesView). v.nodes) c.note-2.ensures.nodes
    ∙ ap (λ (v : NodesView). v.nodes) (put.ensures.written over at)
    ∙ changed_at-some old over (node_with_marks _) above found
    ∙ (λ i. finite.insert old over (marked i))
    ∙ sym (changed_at-some old over (with_child (s.zxid + 1) c.args.sequential) above found))
    ∙ ap (λ (m : Nodes).
    with_child_at (tree_of m s.sessions s.time s.zxid s.limits) over c.args.sequential)
    (nodes c.self.inside c.args.self.now c.self.view_is c.add.new.self c.note.new.nodes
    (notes_of c.note.new.self) c.in_ok-id.id c.args.parent c.args.path c.new-node.result
    c.in_ok-id.ensures.added c.note.ensures.notes c.note.ensures.nodes c.requires.below_root
    c.requires.live)
    ∙ ap (λ (n : Node).
    with_child_at (tree_of (finite.insert s.nodes.nodes c.args.path n) s.sessions s.time s.zxid s.limits)
    over c.args.sequential) made
    ∙ ap (λ (h : StoreView).
    with_node h.tree c.args.path c.args.bytes c.args.owner c.args.term c.args.sequential)
    c.self.view_is

pub returns-clause-marked : goal.returns-clause-marked
returns-clause-marked c =
    let s = c.self.inside in
    let put = c.put_marks-before in
    let at =
    at c.self.inside c.args.self.now c.self.view_is c.add.new.self c.note.new.nodes
    (notes_of c.note.new.self) c.in_ok-id.id c.args.parent c.args.path c.new-node.result
    c.in_ok-id.ensures.added c.note.ensures.notes c.note.ensures.nodes c.requires.below_root
    c.requires.live in
    let made = c.new-node.ensures in
    let stored =
    stored c.self.inside c.args.self.now c.self.view_is c.add.new.self c.note.new.nodes
    (notes_of c.note.new.self) c.in_ok-id.id c.args.parent c.args.path c.new-node.result
    c.in_ok-id.ensures.added c.note.ensures.notes c.note.ensures.nodes c.requires.below_root
    c.requires.live
    c.self.invariant c.requires.free c.requires.persistent
    (subst (λ (n : Node). IsOwner c.args.self.now.tree.sessions n.owner) (sym made) c.requires.owner)
    (subst HasOneEnd (sym made) c.requires.one_end) c.requires.few c.keeps_its_form.ensures in
    let free = ap (λ (h : StoreView). has_node h.tree.nodes c.args.path) c.self.view_is
    ∙ c.requires.free in
    let first : option_map (mark_of c.note.new.nodes s.sessions s.time s.zxid s.limits)
    (notes_of c.note.new.self) ≡ mark_left 1 c.args.self.now.marked =
    rw (c.note.ensures.notes, c.note.ensures.nodes, ← c.self.view_is)
    (noted_marked (Added c.in_ok-id.id) s.nodes c.add.new.self s.sessions s.time s.zxid s.limits
    (added_back s.nodes c.add.new.self s.sessions s.time s.zxid s.limits (notes_of s.log) c.self.invariant
    c.in_ok-id.id c.args.path c.new-node.result c.in_ok-id.ensures.added free
    c.requires.below_root) (notes_of s.log)) in
    let second : option_map (mark_of c.note-2.new.nodes s.sessions s.time s.zxid s.limits)
    (notes_of c.note-2.new.self) ≡ mark_left 1
    (option_map (mark_of c.note.new.nodes s.sessions s.time s.zxid s.limits) (notes_of c.note.new.self)) =
    rw (c.note-2.ensures.notes, c.note-2.ensures.nodes)
    (noted_marked (Marked c.args.parent put.result) c.note.new.nodes put.new.self s.sessions s.time
    s.zxid s.limits
    (marks_back c.note.new.nodes put.new.self s.sessions s.time s.zxid s.limits (notes_of c.note.new.self) stored
    c.args.parent (ap is_some at) _ put.result put.ensures.written put.ensures.before)
    (notes_of c.note.new.self)) in
    second ∙ ap (mark_left 1) first ∙ mark_left_twice c.args.self.now.marked
