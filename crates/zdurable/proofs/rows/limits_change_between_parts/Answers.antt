use Rattle.std.proofs.Common.{refl}
use Rattle.ztree.specs.Tree.{Tree, opening_within}
use Rattle.zdurable.specs.support.Samples.{nodes_at_most}
use Rattle.zdurable.proofs.rows.limits_change_between_parts.Goals as goal

-- the tree that each part leaves
abbrev left : Tree
left = opening_within nodes_at_most

pub returns-clause-one : goal.returns-clause-one
returns-clause-one c = (left, (refl, refl), refl)

pub returns-clause-more : goal.returns-clause-more
returns-clause-more c = (left, (refl, refl), (left, (refl, refl), refl))
