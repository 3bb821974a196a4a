use Rattle.std.proofs.Common.{rules}
use Rattle.zslots.proofs.ListMoves.{list-without}
use Rattle.zslots.proofs.list.List.unlink.Goals as goal

pub returns-clause-items : goal.returns-clause-items
returns-clause-items g c = search rules

pub returns-clause-own : goal.returns-clause-own
returns-clause-own g c = search rules

pub returns-clause-list : goal.returns-clause-list
returns-clause-list g c =
    λ front back is. rw (c.first_if-self.ensures, c.set_prev.ensures, c.set_next.ensures, c.links_at-links.ensures) (list-without {L = g.row.L} g.T.Linked.links g.T.Linked.with_links g.met.T.Linked.reads c.args.slots.now.items c.args.self.now c.args.id front back is)
