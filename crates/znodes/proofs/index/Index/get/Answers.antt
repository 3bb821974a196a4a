use Rattle.std.proofs.Common.{sym, ap, ◌∙◌}
use Rattle.std.specs.FinMap as finite
use Rattle.znodes.proofs.index_lemmas.Finds.{get-ids}
use Rattle.znodes.proofs.index.Index.get.Goals as goal

pub returns : goal.returns
returns c =
    let path = c.args.path.now in
    c.copied.ensures ∙ c.get.ensures.value ∙ sym (get-ids c.self.inside.ids.entries path)
    ∙ ap (λ v. finite.get v.ids path) c.self.view_is
