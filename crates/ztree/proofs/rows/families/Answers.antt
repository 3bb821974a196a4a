use Rattle.std.proofs.Common.{refl}
use Rattle.ztree.proofs.rows.families.Goals as goal

pub returns-clause-root : goal.returns-clause-root
returns-clause-root c = refl

pub returns-clause-parent : goal.returns-clause-parent
returns-clause-parent c = refl

pub returns-clause-child : goal.returns-clause-child
returns-clause-child c = refl

pub returns-clause-grandchild : goal.returns-clause-grandchild
returns-clause-grandchild c = refl

pub returns-clause-stranger : goal.returns-clause-stranger
returns-clause-stranger c = refl
