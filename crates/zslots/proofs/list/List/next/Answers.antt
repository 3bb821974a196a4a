use Rattle.std.proofs.Common.{rules, ap, ◌∙◌}
use Rattle.zslots.proofs.ListMoves.{list-next}
use Rattle.zslots.proofs.list.List.next.Goals as goal

pub returns-clause-own : goal.returns-clause-own
returns-clause-own g c = search rules

pub returns-clause-list : goal.returns-clause-list
returns-clause-list g c =
    λ front back is.
    ap (λ k. k.next) c.links_at.ensures
    ∙ list-next {L = g.row.L} g.T.Linked.links c.args.slots.now.items c.args.self.now c.args.id front back is
