use Rattle.zslots.proofs.ListMoves.{lists-kept}
use Rattle.zslots.proofs.laws.other_lists_stay.Goals as goal

pub returns : goal.returns
returns g c = lists-kept g.T.Linked.links g.T.Linked.with_links g.met.T.Linked.reads {K = g.row.K}
