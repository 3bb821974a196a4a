use Rattle.zwatches.specs.declared.kind.Kind.TheVariants.{Data, Missing, Children}
use Rattle.std.proofs.Common.{sym, ap, ◌∙◌}
use Rattle.std.specs.FinSet.{retain}
use Rattle.zjute.specs.declared.event.EventKind.{EventKind}
use Rattle.zwatches.specs.Watches.{place}
use Rattle.zwatches.specs.support.Groups.{is_left, once_at}
use Rattle.zwatches.proofs.Unfired.{left_both}
use Rattle.zwatches.proofs.firing.remove_each.Goals as goal

pub returns-in-NodeCreated-clause-gone : goal.returns-in-NodeCreated-clause-gone
returns-in-NodeCreated-clause-gone c =
    left_both c.args.watches.now c.remove_at.new.watches c.remove_at-in-NodeCreated.new.watches c.args.connections.now (place c.args.path.now Data) (place c.args.path.now Missing)
    c.remove_at.ensures.gone c.remove_at-in-NodeCreated.ensures.gone
    ∙ ap (λ (e : EventKind). retain c.args.watches.now (is_left c.args.connections.now (once_at e c.args.path.now))) (sym c.in-NodeCreated.is)

pub returns-in-NodeDeleted-clause-gone : goal.returns-in-NodeDeleted-clause-gone
returns-in-NodeDeleted-clause-gone c =
    left_both c.args.watches.now c.remove_at-in-NodeDeleted.new.watches c.remove_at-in-NodeDeleted-2.new.watches c.args.connections.now (place c.args.path.now Data) (place c.args.path.now Children)
    c.remove_at-in-NodeDeleted.ensures.gone c.remove_at-in-NodeDeleted-2.ensures.gone
    ∙ ap (λ (e : EventKind). retain c.args.watches.now (is_left c.args.connections.now (once_at e c.args.path.now))) (sym c.in-NodeDeleted.is)
