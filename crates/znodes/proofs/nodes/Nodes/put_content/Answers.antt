use Rattle.std.proofs.Common.{◌≤◌, Some, refl, arith, sym, ap, ◌∙◌}
use mathlib.Core.Path.{subst}
use Rattle.std.specs.Option.{option_copied_mut}
use Rattle.std.specs.FinMap.{insert}
use Rattle.ztree.specs.Tree.{with_change_at}
use Rattle.ztree.proofs.Maps.{same_some, none_some}
use Rattle.znodes.specs.declared.row.Row.{Row}
use Rattle.znodes.specs.NodesView.{NodesView, content_of, node_with_content}
use Rattle.znodes.specs.support.Rows.{IsThreaded, nodes_of, places_of, held_of}
use Rattle.zslots.specs.declared.limits.TheConstants.{MAX_SLOTS}
use Rattle.zslots.specs.SlotsView.{Items}
use Rattle.znodes.specs.declared.counts.Counts.{Counts}
use Rattle.znodes.specs.support.Counting.{AreCounts, counts_changed}
use Rattle.znodes.proofs.Counted.{size-within, bytes-most, counts-changed}
use Rattle.znodes.proofs.Few.{ids-few}
use Rattle.znodes.proofs.Found.{len-nodes}
use Rattle.znodes.proofs.Linked.{live-shown, node-is, node-shown}
use Rattle.znodes.proofs.Mortal.{mortal-written}
use Rattle.znodes.proofs.Parents.{parents-written}
use Rattle.znodes.proofs.Written.{row-written, rows-written, linked-written, nodes-written, places-written, held-written}
use Rattle.znodes.proofs.nodes.Nodes.put_content.Goals as goal

pub unreachable-requires : goal.unreachable-requires
unreachable-requires c =
    let r = live-shown c.self.inside c.args.self.now c.self.view_is c.args.id c.requires.live in
    none_some r.0 (sym (ap option_copied_mut c.in_default.is) ∙ c.get_mut.follows ∙ r.1)

-- the row's node is one of those counted
pub change-requires-clause-counted : goal.change-requires-clause-counted
change-requires-clause-counted c =
    let s = c.self.inside in
    let r = live-shown s c.args.self.now c.self.view_is c.args.id c.requires.live in
    let row = c.in-Some.row.now in
    size-within (nodes_of s.slots.items s.index.ids) s.counts c.self.invariant.counted r.0.path row.node
    (node-shown s.slots.items s.index.ids s.owners c.self.invariant.linked c.args.id r.0 r.1 r.2
    ∙ ap (λ (x : Row). Some x.node) (sym (same_some row r.0 (sym (ap option_copied_mut c.in-Some.is) ∙ c.get_mut.follows ∙ r.1))))

pub change-requires-clause-bytes : goal.change-requires-clause-bytes
change-requires-clause-bytes c =
    let s = c.self.inside in
    let most = bytes-most (nodes_of s.slots.items s.index.ids) s.counts c.self.invariant.counted in
    let same = len-nodes s.slots.items s.index.ids s.owners c.self.invariant.linked in
    let few = ids-few s.slots.items s.index.ids s.owners c.self.invariant.linked in
    let all = c.self.invariant.few in
    omega (arith, most, same, few, all)

pub invariant_of-self : goal.invariant_of-self
invariant_of-self c =
    let s = c.self.inside in
    let r = live-shown s c.args.self.now c.self.view_is c.args.id c.requires.live in
    let row = c.in-Some.row.now in
    let rows =
    ap (λ bytes. insert s.slots.items c.args.id (record row { node = node_with_content (record c.args.content { bytes = bytes }) row.node })) c.replace.ensures.after
    ∙ row-written s.slots.items c.args.id (node_with_content c.args.content) row (sym c.get_mut.follows ∙ ap option_copied_mut c.in-Some.is) in
    let all : (Items Row × Counts) → Type 0 = λ w. IsThreaded w.0 s.index.ids s.owners s.timed w.1 in
    let counts = c.change.ensures.counts in
    let here =
    node-shown s.slots.items s.index.ids s.owners c.self.invariant.linked c.args.id r.0 r.1 r.2
    ∙ ap (λ (x : Row). Some x.node) (sym (same_some row r.0 (sym (ap option_copied_mut c.in-Some.is) ∙ c.get_mut.follows ∙ r.1))) in
    subst all (λ i. (sym rows i, sym counts i)) (record {
      linked = linked-written s.slots.items s.index.ids s.owners c.args.id r.0 (node_with_content c.args.content) c.self.invariant.linked r.1 r.2 (λ _. refl);
      mortal = mortal-written s.slots.items s.timed c.args.id (node_with_content c.args.content) (λ _. refl) c.self.invariant.mortal;
      parents = parents-written s.slots.items s.index.ids c.args.id (node_with_content c.args.content) c.self.invariant.parents;
      counted =
          subst (λ nodes. AreCounts nodes (counts_changed s.counts row.node.bytes c.args.content.bytes)) (sym (nodes-written s.slots.items s.index.ids s.owners c.args.id r.0 (node_with_content c.args.content) c.self.invariant.linked r.1 r.2 (λ _. refl)))
          (counts-changed (nodes_of s.slots.items s.index.ids) s.counts c.self.invariant.counted r.0.path row.node
          here (node_with_content c.args.content) refl c.change.ensures.small);
      few = subst (λ n. n ≤ MAX_SLOTS) (sym (rows-written s.slots.items c.args.id (node_with_content c.args.content))) c.self.invariant.few;
    })

pub returns-clause-written : goal.returns-clause-written
returns-clause-written c = λ path at.
    let s = c.self.inside in
    let view = c.self.view_is in
    let f = node_with_content c.args.content in
    let r = live-shown s c.args.self.now view c.args.id c.requires.live in
    let row = c.in-Some.row.now in
    let rows =
    ap (λ bytes. insert s.slots.items c.args.id (record row { node = node_with_content (record c.args.content { bytes = bytes }) row.node })) c.replace.ensures.after
    ∙ row-written s.slots.items c.args.id (node_with_content c.args.content) row (sym c.get_mut.follows ∙ ap option_copied_mut c.in-Some.is) in
    let nodes =
    ap (λ m. nodes_of m s.index.ids) rows ∙ nodes-written s.slots.items s.index.ids s.owners c.args.id r.0 f c.self.invariant.linked r.1 r.2 (λ _. refl)
    ∙ (λ i. with_change_at (view i).nodes (same_some r.0.path path (sym r.3 ∙ at) i) f) in
    let places = ap places_of rows ∙ places-written s.slots.items s.index.ids s.owners c.args.id r.0 f c.self.invariant.linked r.1 r.2 (λ _. refl) ∙ ap (λ (v : NodesView). v.places) view in
    let held = ap held_of rows ∙ held-written s.slots.items s.index.ids s.owners c.args.id r.0 f c.self.invariant.linked r.1 r.2 (λ _. refl) ∙ ap (λ (v : NodesView). v.held) view in
    λ i. record {
      nodes = nodes i;
      places = places i;
      held = held i;
      owners = (view i).owners;
      given = (view i).given;
      room = (view i).room;
    }

pub returns-clause-before : goal.returns-clause-before
returns-clause-before c = λ n at.
    let r = live-shown c.self.inside c.args.self.now c.self.view_is c.args.id c.requires.live in
    let node = same_some r.0.node n (sym (node-is c.self.inside c.args.self.now c.self.view_is c.self.invariant.linked c.args.id r.0 r.1 r.2 r.3) ∙ at) in
    let row = c.in-Some.row.now in
    ap (λ bytes. record (content_of row.node) { bytes = bytes }) c.replace.ensures.value
    ∙ ap (λ (x : Row). content_of x.node) (same_some row r.0 (sym (ap option_copied_mut c.in-Some.is) ∙ c.get_mut.follows ∙ r.1)) ∙ ap content_of node
