use Rattle.std.proofs.Common.{◌≡◌, subst}
use Rattle.std.specs.Prelude.{IfOk}
use Rattle.zcalls.specs.declared.call.Update.{Update}
use Rattle.zcalls.specs.declared.reply.Reply.{Reply}
use Rattle.zcalls.specs.Step.{step}
use Rattle.ztree.specs.Tree.{Tree}
use Rattle.ztree_service.specs.Machines.{tree_in}
use Rattle.ztree_service.proofs.step.step.Goals as goal

pub returns-clause-ok : goal.returns-clause-ok
returns-clause-ok c =
    subst (λ (t : Tree). IfOk c.enter.result (λ (did : Reply × Update). ◌≡◌ {A = Tree × Reply} (tree_in c.enter.new.machine, did.0)
    (step t 0 c.args.update)))
    c.in_ok-make_room.ensures.tree c.enter.ensures.ok
