use Rattle.std.proofs.Common.{ap, ◌∙◌, rules}
use Rattle.znodes.proofs.index_lemmas.Changes.{ids-reordered}
use Rattle.znodes.proofs.index.Index.reserve.Goals as goal

pub returns-clause-same : goal.returns-clause-same
returns-clause-same c =
    ids-reordered c.self.inside.ids.entries c.reserve.new.self.entries c.reserve.ensures.entries.2
    ∙ ap (λ v. v.ids) c.self.view_is

pub returns-clause-room : goal.returns-clause-room
returns-clause-room c = search rules
