use Rattle.zslots.proofs.ListMoves.{parts-kept}
use Rattle.zslots.proofs.laws.other_parts_stay.Goals as goal

pub returns : goal.returns
returns g c = parts-kept g.T.Linked.links g.T.Linked.with_links g.met.T.Linked.reads
