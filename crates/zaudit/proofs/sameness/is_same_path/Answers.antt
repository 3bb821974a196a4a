use Rattle.std.proofs.Common.{sym, ◌∙◌}
use Rattle.std.specs.Cmp.Lexicographic.{pointwise_decides, bytes_decides}
use mathlib.Core.Bool.{true≢false}
use Rattle.zaudit.proofs.sameness.is_same_path.Goals as goal

pub returns-clause-yes : goal.returns-clause-yes
returns-clause-yes c yes-is = (pointwise_decides bytes_decides _ _).0 (sym c.eq.ensures ∙ yes-is)

pub returns-clause-no : goal.returns-clause-no
returns-clause-no c no-is same = true≢false (sym ((pointwise_decides bytes_decides _ _).1 same) ∙ (sym c.eq.ensures ∙ no-is))
