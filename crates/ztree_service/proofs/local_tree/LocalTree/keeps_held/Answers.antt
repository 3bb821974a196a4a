use Rattle.std.proofs.Common.{subst}
use Rattle.zprotocol.specs.world.FromTree.{CanStart}
use Rattle.ztree_service.specs.Local.{LocalTreeView}
use Rattle.ztree_service.proofs.local_tree.LocalTree.keeps_held.Goals as goal

pub returns : goal.returns
returns c =
    subst (λ (v : LocalTreeView). CanStart v.tree) c.self.view_is
    (record { lawful = c.keeps_lawful.ensures.lawful; granted = c.keeps_lawful.ensures.bounded.sessions })
