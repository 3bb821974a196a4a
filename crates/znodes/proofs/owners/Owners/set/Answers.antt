use Rattle.std.proofs.Common.{ap, sym, ◌∙◌}
use Rattle.std.specs.FinMap.{get, insert}
use Rattle.ztree.proofs.Maps.{not_none}
use Rattle.ztree.proofs.Entries.{get-entries, insert-entries}
use Rattle.znodes.proofs.owners.Owners.set.Goals as goal

pub unreachable-requires : goal.unreachable-requires
unreachable-requires c =
    not_none (get c.args.self.now c.args.owner) c.requires
    (ap (λ lists. get lists c.args.owner) (sym c.self.view_is) ∙ get-entries c.self.inside.lists.entries c.args.owner ∙ c.in-Err.ensures.absent)

pub returns : goal.returns
returns c =
    insert-entries c.self.inside.lists.entries c.insert.new.self.entries c.args.owner c.args.list c.in-Ok.ensures.updates.0
    ∙ ap (λ lists. insert lists c.args.owner c.args.list) c.self.view_is
