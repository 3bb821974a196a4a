use Rattle.std.proofs.Common.{rules}
use Rattle.std.specs.Prelude.{nat_eq}
use Rattle.std.specs.List.{starts_with}
use Rattle.std.proofs.lemmas.Fn.{filter_same}
use Rattle.zfront.proofs.walking.keep_beginning.Goals as goal

pub returns : goal.returns
returns c =
    filter_same _ (λ text. starts_with nat_eq text c.args.front.now) _ (λ x b f r. search rules) _ _ c.retain.ensures.filtered
