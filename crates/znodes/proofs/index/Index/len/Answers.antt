use Rattle.std.proofs.Common.{sym, ap, ◌∙◌}
use Rattle.std.specs.FinMap as finite
use Rattle.znodes.proofs.index_lemmas.Finds.{len-ids}
use Rattle.znodes.proofs.index.Index.len.Goals as goal

pub returns : goal.returns
returns c =
    c.len.ensures.len ∙ sym (len-ids c.self.inside.ids.entries c.len.ensures.unique)
    ∙ ap (λ v. finite.len v.ids) c.self.view_is
