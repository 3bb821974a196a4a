use Rattle.std.proofs.Common.{◌∙◌, sym, ap}
use mathlib.Core.Bool.{true≢false}
use Rattle.std.specs.Option.{option_map}
use Rattle.ztree.specs.support.Samples.{at_a, at_a_b}
use Rattle.ztree.proofs.Nodes.{get-insert-other}
use Rattle.zwatches.specs.changes.Laws.{but_children}
use Rattle.zwatches.specs.Laws.{is_below}
use Rattle.zfront_laws.proofs.watches.rows.what_stays.Goals as goal

pub returns-clause-sibling : goal.returns-clause-sibling
returns-clause-sibling c = λ before n below under.
    ap (option_map but_children) (get-insert-other before at_a n below (λ same. true≢false (sym under ∙ ap (is_below at_a_b) same)))
