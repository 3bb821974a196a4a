use Rattle.std.proofs.Common.{◌≡◌, ◌≤◌, refl, sym, ap, ◌∙◌, arith}
use mathlib.Core.Path.{subst}
use Rattle.std.specs.FinMap.{insert}
use Rattle.ztree.specs.Tree.{parent_of}
use Rattle.znodes.specs.declared.nodes.Nodes.TheInside.{Inside}
use Rattle.znodes.specs.index.IndexView.{IndexView}
use Rattle.znodes.specs.NodesView.{NodesView, SameButRoom}
use Rattle.znodes.specs.support.Rows.{IsThreaded, nodes_of}
use Rattle.znodes.specs.support.Fields.{view_of}
use Rattle.znodes.proofs.Added.{threaded-joined, joined, parent-has_node, held-at, fits, under, added}
use Rattle.znodes.proofs.nodes.Nodes.add.Goals as goal

-- the fields with more room in the index
abbrev with_index : Inside → IndexView → Inside
with_index s index = record s { index = index }

-- what the nodes are then, and with the row in
module _ (s : Inside) (v : NodesView) (view : view_of s ≡ v) (threaded : IsThreaded s.slots.items s.index.ids s.owners s.timed s.counts)
    (index : IndexView) (ids : index.ids ≡ s.index.ids) where
  roomy : SameButRoom v (view_of (with_index s index))
  roomy =
      let nodes = ap (nodes_of s.slots.items) ids ∙ ap (λ (w : NodesView). w.nodes) view in
      λ i. record {
        nodes = nodes i;
        places = (view i).places;
        held = (view i).held;
        owners = (view i).owners;
        given = (view i).given;
        room = index.room;
      }

  threaded-still : IsThreaded s.slots.items index.ids s.owners s.timed s.counts
  threaded-still = subst (λ m. IsThreaded s.slots.items m s.owners s.timed s.counts) (sym ids) threaded

pub invariant_of-self-2 : goal.invariant_of-self-2
invariant_of-self-2 c =
    let s = c.self.inside in
    let id = c.in-Ok-insert.id in
    let index = c.reserve.new.self in
    let same = c.in-Ok-reserve.ensures.same in
    let threaded = threaded-still s c.args.self.now c.self.view_is c.self.invariant index same in
    let items = c.in-Ok-insert.ensures.items ∙ ap (insert s.slots.items id) c.alone.ensures in
    threaded-joined (with_index s index) threaded c.insert.new.self id c.args.path c.args.node c.in-Ok.key c.in-Ok.ensures.cases c.in-Ok-insert.ensures.new items
    (let short = c.if-len-ge-MAX_SLOTS.false in let all = c.len.ensures in omega (arith, short, all))

pub put_back-requires-clause-held : goal.put_back-requires-clause-held
put_back-requires-clause-held c =
    let s = c.self.inside in
    let id = c.in-Ok-insert.id in
    let index = c.reserve.new.self in
    let same = c.in-Ok-reserve.ensures.same in
    let threaded = threaded-still s c.args.self.now c.self.view_is c.self.invariant index same in
    let items = c.in-Ok-insert.ensures.items ∙ ap (insert s.slots.items id) c.alone.ensures in
    let v = c.args.self.now in
    let w = view_of (with_index s index) in
    let held = view_of (record (with_index s index) { slots = c.insert.new.self }) in
    let more = roomy s v c.self.view_is c.self.invariant index same in
    let holds =
    joined (with_index s index) threaded c.insert.new.self id c.args.path c.args.node c.in-Ok.key c.in-Ok.ensures.cases c.in-Ok-insert.ensures.new items
    c.in-Ok-insert.ensures.given in
    rw (held-at v w held id c.args.parent c.args.path c.args.node more holds) refl

pub put_back-requires-clause-fits : goal.put_back-requires-clause-fits
put_back-requires-clause-fits c =
    let s = c.self.inside in
    let id = c.in-Ok-insert.id in
    let index = c.reserve.new.self in
    let same = c.in-Ok-reserve.ensures.same in
    let threaded = threaded-still s c.args.self.now c.self.view_is c.self.invariant index same in
    let items = c.in-Ok-insert.ensures.items ∙ ap (insert s.slots.items id) c.alone.ensures in
    let v = c.args.self.now in
    let w = view_of (with_index s index) in
    let held = view_of (record (with_index s index) { slots = c.insert.new.self }) in
    let more = roomy s v c.self.view_is c.self.invariant index same in
    let holds =
    joined (with_index s index) threaded c.insert.new.self id c.args.path c.args.node c.in-Ok.key c.in-Ok.ensures.cases c.in-Ok-insert.ensures.new items
    c.in-Ok-insert.ensures.given in
    let above = parent-has_node s v c.self.view_is c.self.invariant.linked c.args.parent (parent_of c.args.path) c.requires.parent in
    fits v w held id c.args.parent c.args.path c.args.node more holds c.requires.below_root c.requires.free above c.requires.owner

pub put_back-requires-clause-under : goal.put_back-requires-clause-under
put_back-requires-clause-under c =
    let s = c.self.inside in
    let id = c.in-Ok-insert.id in
    let index = c.reserve.new.self in
    let same = c.in-Ok-reserve.ensures.same in
    let threaded = threaded-still s c.args.self.now c.self.view_is c.self.invariant index same in
    let items = c.in-Ok-insert.ensures.items ∙ ap (insert s.slots.items id) c.alone.ensures in
    let v = c.args.self.now in
    let w = view_of (with_index s index) in
    let held = view_of (record (with_index s index) { slots = c.insert.new.self }) in
    let more = roomy s v c.self.view_is c.self.invariant index same in
    let holds =
    joined (with_index s index) threaded c.insert.new.self id c.args.path c.args.node c.in-Ok.key c.in-Ok.ensures.cases c.in-Ok-insert.ensures.new items
    c.in-Ok-insert.ensures.given in
    under v w held id c.args.parent c.args.path c.args.node more holds c.requires.parent

pub returns-clause-added : goal.returns-clause-added
returns-clause-added c =
    let s = c.self.inside in
    let id = c.in-Ok-insert.id in
    let index = c.reserve.new.self in
    let same = c.in-Ok-reserve.ensures.same in
    let threaded = threaded-still s c.args.self.now c.self.view_is c.self.invariant index same in
    let items = c.in-Ok-insert.ensures.items ∙ ap (insert s.slots.items id) c.alone.ensures in
    let v = c.args.self.now in
    let w = view_of (with_index s index) in
    let held = view_of (record (with_index s index) { slots = c.insert.new.self }) in
    let more = roomy s v c.self.view_is c.self.invariant index same in
    let holds =
    joined (with_index s index) threaded c.insert.new.self id c.args.path c.args.node c.in-Ok.key c.in-Ok.ensures.cases c.in-Ok-insert.ensures.new items
    c.in-Ok-insert.ensures.given in
    let grows = subst (λ room. room ≤ index.room) (ap (λ (u : NodesView). u.room) c.self.view_is) c.in-Ok-reserve.ensures.grows in
    added v w held id c.args.parent c.args.path c.args.node more holds c.put_back.new.self grows c.put_back.ensures
