use Rattle.ztree_service.proofs.Stepping.{bare_ready}
use Rattle.ztree_service.proofs.local_tree.LocalTree.of.Goals as goal

pub invariant_of-result : goal.invariant_of-result
invariant_of-result c = λ _. bare_ready c.args.machine c.requires.whole c.requires.bare
