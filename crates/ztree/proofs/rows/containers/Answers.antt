use Rattle.std.proofs.Common.{refl}
use Rattle.ztree.specs.support.Samples.{container, fresh_container}
use Rattle.ztree.proofs.Worked.{both_entries}
use Rattle.ztree.proofs.rows.containers.Goals as goal

pub returns-clause-fresh : goal.returns-clause-fresh
returns-clause-fresh c = refl

pub returns-clause-first_child : goal.returns-clause-first_child
returns-clause-first_child c = refl

pub returns-clause-at_once : goal.returns-clause-at_once
returns-clause-at_once c = refl

pub returns-clause-leaves_alone : goal.returns-clause-leaves_alone
returns-clause-leaves_alone c = rw (both_entries container container) refl

pub returns-clause-fresh_stays : goal.returns-clause-fresh_stays
returns-clause-fresh_stays c = rw (both_entries container fresh_container) refl
