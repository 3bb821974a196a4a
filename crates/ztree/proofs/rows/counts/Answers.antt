use Rattle.std.proofs.Common.{ap}
use Rattle.ztree.specs.Counts.{sum_of, one_if_owned, size_of}
use Rattle.ztree.specs.support.Samples.{some_node, container}
use Rattle.ztree.proofs.Worked.{both_entries}
use Rattle.ztree.proofs.rows.counts.Goals as goal

-- src/rows.rt:59:1
pub returns-clause-owned : goal.returns-clause-owned
returns-clause-owned c = ap (sum_of one_if_owned) (both_entries some_node some_node)

-- src/rows.rt:59:1
pub returns-clause-no_owner : goal.returns-clause-no_owner
returns-clause-no_owner c = ap (sum_of one_if_owned) (both_entries container container)

-- src/rows.rt:59:1
pub returns-clause-data : goal.returns-clause-data
returns-clause-data c = ap (sum_of size_of) (both_entries some_node some_node)
