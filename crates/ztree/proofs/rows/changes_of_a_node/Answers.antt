use Rattle.std.proofs.Common.{refl}
use Rattle.ztree.proofs.rows.changes_of_a_node.Goals as goal

pub returns-clause-stat : goal.returns-clause-stat
returns-clause-stat c = refl

pub returns-clause-container : goal.returns-clause-container
returns-clause-container c = refl

pub returns-clause-child : goal.returns-clause-child
returns-clause-child c = refl

pub returns-clause-sequential : goal.returns-clause-sequential
returns-clause-sequential c = refl

pub returns-clause-loss : goal.returns-clause-loss
returns-clause-loss c = refl

pub returns-clause-data : goal.returns-clause-data
returns-clause-data c = refl
