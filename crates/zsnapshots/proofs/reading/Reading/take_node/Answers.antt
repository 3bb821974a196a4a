use Rattle.std.proofs.Common.{◌≡◌, ◌-◌, Some, true, false, ◌∙◌, sym, subst}
use Rattle.zpath.specs.Grammar.{path_cmp}
use Rattle.ztree.specs.declared.node.Node.{Node}
use Rattle.ztree.specs.Tree.{Path}
use Rattle.ztree.proofs.Sorted.{paths_total}
use Rattle.zops.specs.Machine.{MachineState}
use Rattle.zsnapshots.specs.Rows.{node_text}
use Rattle.zsnapshots.specs.States.{ReadingView, IsNodeFault, IsAbove, IsTaken, nodes_of, wants_session, wants_node}
use Rattle.zsnapshots.specs.support.Reading.{IsReading}
use Rattle.zsnapshots.proofs.RowForms.{is_node_text}
use Rattle.zsnapshots.proofs.Keys.{map_above, not_above}
use Rattle.zsnapshots.proofs.Cached.{view, node_kept, node_taken}
use Rattle.zsnapshots.proofs.Reported.{read_is, refused_reported}
use Rattle.zsnapshots.proofs.reading.Reading.take_node.Goals as goal

pub returns-then-not-is_path_above-clause-fault : goal.returns-then-not-is_path_above-clause-fault
returns-then-not-is_path_above-clause-fault c =
    let i = c.self.inside in
    let e : Path × Node = (c.in-Ok.read.0, c.in-Ok.read.1) in
    let found = c.in-Ok.ensures.found in (
      e,
      c.in-Ok.read.2.now,
      read_is node_text is_node_text e c.in-Ok.read.2.now c.args.bytes.now found.0 found.1,
      subst (λ (r : ReadingView). IsAbove path_cmp (nodes_of r.state) e.0 → ⊥) c.self.view_is
          (not_above path_cmp (Some i.path) e.0 (nodes_of i.restoring) c.self.invariant.last_path (sym c.is_path_above.ensures
          ∙ c.if-not-is_path_above.true)),
    )

pub returns-in-Err-put_node-clause-fault : goal.returns-in-Err-put_node-clause-fault
returns-in-Err-put_node-clause-fault c =
    let i = c.self.inside in
    let e : Path × Node = (c.in-Ok.read.0, c.in-Ok.read.1) in
    let found = c.in-Ok.ensures.found in
    let above = map_above paths_total i.restoring.service.plain.nodes (Some i.path) e.0 c.self.invariant.last_path
    (sym c.is_path_above.ensures ∙ c.if-not-is_path_above.false) in
    subst (λ (r : ReadingView). IsNodeFault r.state c.args.bytes.now c.from-in-Err-put_node.result) c.self.view_is
    (subst (IsNodeFault i.restoring c.args.bytes.now) (sym c.from-in-Err-put_node.ensures)
    (refused_reported node_text is_node_text _ _ c.args.bytes.now e c.in-Ok.read.2.now found.0 found.1 above c.in-Err-put_node.fault
    c.in-Err-put_node.ensures.fault))

pub invariant_of-self-2 : goal.invariant_of-self-2
invariant_of-self-2 c =
    let i = c.self.inside in
    let none = subst (λ (r : ReadingView). wants_session r ≡ false) (sym c.self.view_is) c.requires.sessions in
    let wanted = subst (λ (r : ReadingView). wants_node r ≡ true) (sym c.self.view_is) c.requires.wanted in
    let above = map_above paths_total i.restoring.service.plain.nodes (Some i.path) c.in-Ok.read.0 c.self.invariant.last_path
    (sym c.is_path_above.ensures ∙ c.if-not-is_path_above.false) in
    subst (λ (p : Path). IsReading i.header c.put_node.new.self i.sessions (i.nodes - 1) i.replies i.session p i.client)
    (sym c.in-Ok-clone.ensures.cases)
    (subst (λ (u : MachineState). IsReading i.header u i.sessions (i.nodes - 1) i.replies i.session c.in-Ok.read.0 i.client)
    (sym c.in_default-put_node.ensures.state)
    (node_kept i.header i.restoring i.sessions i.nodes i.replies i.session i.path i.client c.self.invariant c.in-Ok.read.0
    c.in-Ok.read.1 above none wanted c.in_default-put_node.ensures.can.dated))

pub returns-clause-taken : goal.returns-clause-taken
returns-clause-taken c =
    let i = c.self.inside in
    let found = c.in-Ok.ensures.found in
    let rest = c.in-Ok.read.2.now in
    let none = subst (λ (r : ReadingView). wants_session r ≡ false) (sym c.self.view_is) c.requires.sessions in
    let wanted = subst (λ (r : ReadingView). wants_node r ≡ true) (sym c.self.view_is) c.requires.wanted in
    let above = map_above paths_total i.restoring.service.plain.nodes (Some i.path) c.in-Ok.read.0 c.self.invariant.last_path
    (sym c.is_path_above.ensures ∙ c.if-not-is_path_above.false) in
    subst (λ (r : ReadingView). IsTaken r (view i.header c.put_node.new.self) c.args.bytes.now rest) c.self.view_is
    (subst (λ (u : MachineState). IsTaken (view i.header i.restoring) (view i.header u) c.args.bytes.now rest)
    (sym c.in_default-put_node.ensures.state)
    (node_taken i.header i.restoring i.sessions i.nodes i.replies i.session i.path i.client c.self.invariant c.in-Ok.read.0
    c.in-Ok.read.1 above none wanted c.args.bytes.now rest found.0 found.1))
