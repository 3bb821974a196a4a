use Rattle.std.proofs.Common.{sym, ap, ◌∙◌}
use Rattle.zpath.specs.Grammar.{IsFrontOf}
use Rattle.ztree.specs.Tree.{parent_of}
use Rattle.ztree.proofs.Nodes.{parent_of-front}
use Rattle.zfront.proofs.ends.parent_path.Goals as goal

pub returns-in-Some : goal.returns-in-Some
returns-in-Some c =
    let front : IsFrontOf c.args.path.now c.in-Some.parent = rw c.in-Some.is at c.in_ok-parent.ensures.front in
    sym (ap parent_of front.1 ∙ parent_of-front c.in-Some.parent front.0)
