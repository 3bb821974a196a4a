use Rattle.std.proofs.Common.{sym, ap, ◌∙◌, unwrap_or}
use Rattle.std.specs.FinMap.{get}
use Rattle.ztree.proofs.Entries.{get-entries}
use Rattle.zwatches.proofs.shares.Shares.of.Goals as goal

pub returns : goal.returns
returns c =
    c.unwrap_or.ensures
    ∙ ap (λ o. unwrap_or o 0)
    (c.copied.ensures ∙ c.get.ensures.value ∙ sym (get-entries c.self.inside.counts.entries c.args.connection) ∙ ap (λ m. get m c.args.connection) c.self.view_is)
