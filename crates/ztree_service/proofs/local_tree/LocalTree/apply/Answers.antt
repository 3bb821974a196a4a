use Rattle.std.proofs.Common.{ap, ◌∙◌}
use Rattle.zcalls.specs.declared.call.Call.TheVariants as call
use Rattle.zprotocol.specs.world.PlainTree.{serve}
use Rattle.ztree_service.specs.Local.{LocalTreeView}
use Rattle.ztree_service.proofs.local_tree.LocalTree.apply.Goals as goal

pub returns-clause-applied : goal.returns-clause-applied
returns-clause-applied c =
    c.in_ok-reply.ensures.ok ∙ ap (λ (v : LocalTreeView). serve v.tree 0 (call.Update c.args.update)) c.self.view_is
