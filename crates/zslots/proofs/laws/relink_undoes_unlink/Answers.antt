use Rattle.zslots.proofs.ListMoves.{list_with_between-without}
use Rattle.zslots.proofs.laws.relink_undoes_unlink.Goals as goal

pub returns : goal.returns
returns g c =
    list_with_between-without {L = g.row.L} g.T.Linked.links g.T.Linked.with_links g.met.T.Linked.reads g.met.T.Linked.same g.met.T.Linked.twice
