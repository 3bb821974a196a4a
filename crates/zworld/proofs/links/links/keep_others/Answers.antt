use Rattle.std.proofs.Common.{rules}
use Rattle.std.proofs.lemmas.Fn.{filter_same}
use Rattle.zworld.specs.links.support.Order.{is_for_others}
use Rattle.zworld.proofs.links.links.keep_others.Goals as goal

pub returns : goal.returns
returns g c = filter_same _ (is_for_others c.args.to) _ (λ x b f r. search rules) _ _ c.retain.ensures.filtered
