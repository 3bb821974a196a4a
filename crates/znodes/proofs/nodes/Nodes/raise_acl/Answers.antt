use Rattle.std.proofs.Common.{◌≤◌, refl, sym, ap, ◌∙◌, arith}
use mathlib.Core.Path.{subst}
use Rattle.std.specs.Option.{option_copied_mut}
use Rattle.ztree.specs.Tree.{with_acl, with_change_at}
use Rattle.ztree.proofs.Maps.{same_some, none_some}
use Rattle.znodes.specs.declared.row.Row.{Row}
use Rattle.znodes.specs.NodesView.{NodesView}
use Rattle.znodes.specs.support.Rows.{IsThreaded, nodes_of, places_of, held_of}
use Rattle.zslots.specs.declared.limits.TheConstants.{MAX_SLOTS}
use Rattle.znodes.specs.support.Counting.{AreCounts}
use Rattle.znodes.proofs.Counted.{counts-kept}
use Rattle.znodes.proofs.Linked.{live-shown, node-is, node-shown}
use Rattle.znodes.proofs.Mortal.{mortal-written}
use Rattle.znodes.proofs.Parents.{parents-written}
use Rattle.znodes.proofs.Written.{row-written, rows-written, linked-written, nodes-written, places-written, held-written}
use Rattle.znodes.proofs.nodes.Nodes.raise_acl.Goals as goal

pub unreachable-requires : goal.unreachable-requires
unreachable-requires c =
    let r = live-shown c.self.inside c.args.self.now c.self.view_is c.args.id c.requires.live in
    none_some r.0 (sym (ap option_copied_mut c.in_default.is) ∙ c.get_mut.follows ∙ r.1)

pub invariant_of-self : goal.invariant_of-self
invariant_of-self c =
    let s = c.self.inside in
    let r = live-shown s c.args.self.now c.self.view_is c.args.id c.requires.live in
    let rows = row-written s.slots.items c.args.id with_acl c.in-Some.row.now (sym c.get_mut.follows ∙ ap option_copied_mut c.in-Some.is) in
    subst (λ m. IsThreaded m s.index.ids s.owners s.timed s.counts) (sym rows) (record {
      linked = linked-written s.slots.items s.index.ids s.owners c.args.id r.0 with_acl c.self.invariant.linked r.1 r.2 (λ _. refl);
      mortal = mortal-written s.slots.items s.timed c.args.id with_acl (λ _. refl) c.self.invariant.mortal;
      parents = parents-written s.slots.items s.index.ids c.args.id with_acl c.self.invariant.parents;
      counted =
          subst (λ nodes. AreCounts nodes s.counts) (sym (nodes-written s.slots.items s.index.ids s.owners c.args.id r.0 with_acl c.self.invariant.linked r.1 r.2 (λ _. refl)))
          (counts-kept (nodes_of s.slots.items s.index.ids) s.counts c.self.invariant.counted r.0.path r.0.node
          (node-shown s.slots.items s.index.ids s.owners c.self.invariant.linked c.args.id r.0 r.1 r.2) with_acl refl refl);
      few = subst (λ n. n ≤ MAX_SLOTS) (sym (rows-written s.slots.items c.args.id with_acl)) c.self.invariant.few;
    })

-- its counter can rise
pub overflow_add-row : goal.overflow_add-row
overflow_add-row c =
    let s = c.self.inside in
    let r = live-shown s c.args.self.now c.self.view_is c.args.id c.requires.live in
    let room = c.requires.counters r.0.node (node-is s c.args.self.now c.self.view_is c.self.invariant.linked c.args.id r.0 r.1 r.2 r.3) in
    let same = ap (λ (x : Row). x.node.aversion) (same_some c.in-Some.row.now r.0 (sym (ap option_copied_mut c.in-Some.is) ∙ c.get_mut.follows ∙ r.1)) in
    omega (arith, room, same)

pub returns : goal.returns
returns c = record {
  written = λ path at.
      let s = c.self.inside in
      let view = c.self.view_is in
      let r = live-shown s c.args.self.now view c.args.id c.requires.live in
      let rows = row-written s.slots.items c.args.id with_acl c.in-Some.row.now (sym c.get_mut.follows ∙ ap option_copied_mut c.in-Some.is) in
      let nodes =
      ap (λ m. nodes_of m s.index.ids) rows ∙ nodes-written s.slots.items s.index.ids s.owners c.args.id r.0 with_acl c.self.invariant.linked r.1 r.2 (λ _. refl)
      ∙ (λ i. with_change_at (view i).nodes (same_some r.0.path path (sym r.3 ∙ at) i) with_acl) in
      let places = ap places_of rows ∙ places-written s.slots.items s.index.ids s.owners c.args.id r.0 with_acl c.self.invariant.linked r.1 r.2 (λ _. refl) ∙ ap (λ (v : NodesView). v.places) view in
      let held = ap held_of rows ∙ held-written s.slots.items s.index.ids s.owners c.args.id r.0 with_acl c.self.invariant.linked r.1 r.2 (λ _. refl) ∙ ap (λ (v : NodesView). v.held) view in
      λ i. record {
        nodes = nodes i;
        places = places i;
        held = held i;
        owners = (view i).owners;
        given = (view i).given;
        room = (view i).room;
      };
}
