use Rattle.std.proofs.Common.{length}
use Rattle.ztree.specs.Tree.{ephemerals}
use Rattle.zstore.proofs.ids.UnderWay.{IsUnderWay}
use Rattle.zstore.proofs.store.Store.end_session.Given as goal

abbrev pub invariant-loop-ephemeral : goal.invariant-loop-ephemeral
invariant-loop-ephemeral l = IsUnderWay l.fn.self l.self l.id

abbrev pub decreases-loop-ephemeral : goal.decreases-loop-ephemeral
decreases-loop-ephemeral l = length (ephemerals l.self.tree.nodes l.id)
