use Rattle.std.proofs.Common.{sym, ap, ◌∙◌}
use Rattle.zjute.specs.declared.watch_type.WatchType.TheVariants as type
use Rattle.zwatches.specs.Watches.{Path}
use Rattle.zwatches.specs.Removal.{has_meant}
use Rattle.zwatches.proofs.Found.{path_unneeded}
use Rattle.zwatches.proofs.removal.tidy.Goals as goal

pub returns-then-not-has_any : goal.returns-then-not-has_any
returns-then-not-has_any c =
    let table = c.args.watches.now in
    path_unneeded c.args.paths.now.paths.entries c.remove.new.self.paths.entries table c.args.connection c.args.path.now
    (ap (λ (p : Path). has_meant table c.args.connection type.Any p) (sym c.names.ensures.names) ∙ sym c.has_any.ensures ∙ c.if-not-has_any.true)
    c.remove.ensures c.requires
