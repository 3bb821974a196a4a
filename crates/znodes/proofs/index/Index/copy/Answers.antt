use Rattle.std.proofs.Common.{ap, ◌∙◌}
use Rattle.znodes.proofs.index_lemmas.Changes.{ids-cloned}
use Rattle.znodes.proofs.index.Index.copy.Goals as goal

pub returns : goal.returns
returns c =
    ids-cloned c.self.inside.ids.entries c.in_ok-ids.ids.entries c.in_ok-ids.ensures.cases
    ∙ ap (λ v. v.ids) c.self.view_is
