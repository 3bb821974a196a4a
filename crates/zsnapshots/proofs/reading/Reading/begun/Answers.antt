use Rattle.std.proofs.Common.{◌++◌, ap, refl, sym, subst, ◌∙◌}
use Rattle.ztree.specs.declared.node.Node.{Node}
use Rattle.ztree.specs.Tree.{Path}
use Rattle.zsnapshots.specs.Rows.{node_text}
use Rattle.zsnapshots.specs.States.{ReadingView, Fits, spelled, IsRootTaken, IsRootFault}
use Rattle.zsnapshots.specs.States.StateRow.{OfNode}
use Rattle.zsnapshots.proofs.RowForms.{is_node_text}
use Rattle.zsnapshots.proofs.Rooted.{root_taken}
use Rattle.zsnapshots.proofs.Reported.{read_is, refused_reported}
use Rattle.zsnapshots.proofs.reading.Reading.begun.Goals as goal

pub returns-then-not-is_root-clause-fault : goal.returns-then-not-is_root-clause-fault
returns-then-not-is_root-clause-fault c =
    let e : Path × Node = (c.in-Ok.read.0, c.in-Ok.read.1) in
    let found = c.in-Ok.ensures.found in
    (e, c.in-Ok.read.2.now, read_is node_text is_node_text e c.in-Ok.read.2.now c.args.bytes.now found.0 found.1, c.if-not-is_root.ensures.no refl)

pub returns-in-Ok-rooted-clause-taken : goal.returns-in-Ok-rooted-clause-taken
returns-in-Ok-rooted-clause-taken c =
    let found = c.in-Ok.ensures.found in
    let root = c.in-Ok.read.1 in
    let rest = c.in-Ok.read.2.now in
    let at_root = c.if-not-is_root.ensures.yes refl in
    subst (λ (r : ReadingView). IsRootTaken c.args.header r c.args.bytes.now rest) (sym c.in-Ok-rooted.ensures.reading)
    (root_taken c.args.header root c.args.bytes.now rest (subst (λ (p : Path). Fits (OfNode (p, root))) at_root found.0)
    (found.1 ∙ ap (λ (p : Path). spelled (OfNode (p, root)) ++ rest) at_root))

pub returns-in-Err-rooted-clause-fault : goal.returns-in-Err-rooted-clause-fault
returns-in-Err-rooted-clause-fault c =
    let e : Path × Node = (c.in-Ok.read.0, c.in-Ok.read.1) in
    let found = c.in-Ok.ensures.found in
    subst (IsRootFault c.args.header c.args.bytes.now) (sym c.from-in-Err-rooted.ensures)
    (refused_reported node_text is_node_text _ _ c.args.bytes.now e c.in-Ok.read.2.now found.0 found.1 (c.if-not-is_root.ensures.yes refl)
    c.in-Err-rooted.fault c.in-Err-rooted.ensures.fault)
