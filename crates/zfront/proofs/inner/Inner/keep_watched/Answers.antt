use Rattle.std.proofs.Common.{rules}
use Rattle.std.proofs.lemmas.Fn.{filter_same}
use Rattle.zjute.specs.declared.event.EventKind.TheVariants.{NodeDeleted}
use Rattle.zwatches.specs.Events.{is_awaited}
use Rattle.zfront.proofs.inner.Inner.keep_watched.Goals as goal

pub returns : goal.returns
returns g c =
    filter_same _ (is_awaited c.args.self.now.tables.watches NodeDeleted) _ (λ x b f r. search rules) _ _ c.retain.ensures.filtered
