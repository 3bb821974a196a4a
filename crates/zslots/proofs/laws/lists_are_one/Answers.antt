use Rattle.zslots.proofs.ListMoves.{list-one, list-first}
use Rattle.zslots.proofs.laws.lists_are_one.Goals as goal

pub returns-clause-one : goal.returns-clause-one
returns-clause-one g c = list-one {L = g.row.L} g.T.Linked.links

pub returns-clause-first : goal.returns-clause-first
returns-clause-first g c = list-first {L = g.row.L} g.T.Linked.links
