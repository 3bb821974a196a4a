use Rattle.std.proofs.Common.{sym, ap, ◌∙◌}
use Rattle.std.specs.Option.{option_copied, option_and_then}
use Rattle.znodes.specs.declared.row.Row.{Row}
use Rattle.znodes.specs.support.Reading.{last_name}
use Rattle.znodes.proofs.Keys.{last_name-read}
use Rattle.znodes.proofs.children.last_name.Goals as goal

pub returns : goal.returns
returns c =
    last_name-read c.in_ok-get.field-0.now.path c.name.result c.name.ensures.root c.name.ensures.last
    ∙ ap (option_and_then (λ (r : Row). last_name r.path)) (sym (ap option_copied c.in_ok-get.was) ∙ c.get.ensures)
