use Rattle.std.proofs.Common.{ap, sym, ◌∙◌}
use Rattle.std.specs.Option.{option_and_then}
use Rattle.std.specs.FinMap.{get}
use Rattle.ztree.proofs.Entries.{get-entries}
use Rattle.znodes.proofs.OwnerMaps.{is_somebody}
use Rattle.znodes.proofs.owners.Owners.list.Goals as goal

pub returns : goal.returns
returns c =
    c.copied.ensures ∙ c.get.ensures.value ∙ sym (get-entries c.self.inside.lists.entries c.args.owner)
    ∙ ap (λ lists. get lists c.args.owner) c.self.view_is
    ∙ sym (ap (option_and_then (get c.args.self.now)) (is_somebody c.args.owner c.if-owner-eq0.false))
