use Rattle.std.proofs.Common.{sym, ap, subst, ◌∙◌}
use Rattle.zwatches.specs.Watches.{Watches, share}
use Rattle.zwatches.specs.support.Shares.{AreCounted}
use Rattle.zwatches.proofs.Counts.{counted_none}
use Rattle.zwatches.proofs.counted.Counted.forget.Goals as goal

pub invariant_of-self : goal.invariant_of-self
invariant_of-self c = (
  subst (λ m. AreCounted m c.self.inside.watches) (sym c.forget.ensures)
      (counted_none c.self.inside.shares c.self.inside.watches c.args.connection (ap (λ (t : Watches). share t c.args.connection) c.self.view_is ∙ c.requires) c.self.invariant.0),
  c.self.invariant.1,
)
