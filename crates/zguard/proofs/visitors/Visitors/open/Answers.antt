use Rattle.std.proofs.Common.{◌∙◌}
use Rattle.std.specs.FinMap.{insert}
use Rattle.zguard.specs.declared.visitor.Standing.TheVariants.{Silent}
use Rattle.zguard.specs.Guarding.{VisitorView}
use Rattle.ztree.proofs.Entries.{insert-entries}
use Rattle.zguard.proofs.visitors.Visitors.open.Goals as goal

pub returns-clause-ok : goal.returns-clause-ok
returns-clause-ok c =
    let k = c.args.connection in
    let v : VisitorView = record { standing = Silent; bytes = c.new.result.items } in
    insert-entries c.self.inside.rows.entries c.insert.new.self.entries k v c.in_ok-insert.ensures.updates.0
    ∙ (λ i. insert (c.self.view_is i) k (record { standing = Silent; bytes = c.new.ensures.items i }))
