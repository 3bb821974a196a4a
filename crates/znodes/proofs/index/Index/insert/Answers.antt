use Rattle.std.proofs.Common.{ap, ◌∙◌}
use Rattle.std.specs.FinMap as finite
use Rattle.znodes.proofs.index_lemmas.Changes.{ids-inserted}
use Rattle.znodes.proofs.index.Index.insert.Goals as goal

pub returns-clause-ids : goal.returns-clause-ids
returns-clause-ids c =
    let path = c.args.path in
    let updates = c.in-Ok.ensures.updates in
    ids-inserted path c.args.id c.self.inside.ids.entries c.insert.new.self.entries
    (record { here = updates.1; elsewhere = updates.3 })
    ∙ ap (λ v. finite.insert v.ids path c.args.id) c.self.view_is
