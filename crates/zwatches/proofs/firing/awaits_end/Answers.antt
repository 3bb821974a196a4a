use Rattle.std.proofs.Common.{sym, ap, ◌∙◌}
use Rattle.std.specs.FinSet.{items}
use Rattle.zjute.specs.declared.event.EventKind.TheVariants.{NodeDeleted}
use Rattle.zwatches.specs.Watches.{Watches}
use Rattle.zwatches.specs.Events.{is_awaited}
use Rattle.zwatches.proofs.Kept.{of_items}
use Rattle.zwatches.proofs.Reporting.{awaited_is}
use Rattle.zwatches.proofs.firing.awaits_end.Goals as goal

pub returns : goal.returns
returns c =
    let table = c.args.watches.now in
    c.has_end.ensures
    ∙ awaited_is (items table) NodeDeleted c.args.names.now
    ∙ ap (λ (t : Watches). is_awaited t NodeDeleted c.args.names.now) (sym (of_items table))
