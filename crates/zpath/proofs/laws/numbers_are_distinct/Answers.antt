use Rattle.zpath.proofs.Sequence.{numbers_are_distinct, refuses_what_is_over}
use Rattle.zpath.proofs.laws.numbers_are_distinct.Goals as goal

pub returns-clause-apart : goal.returns-clause-apart
returns-clause-apart c = numbers_are_distinct

pub returns-clause-over : goal.returns-clause-over
returns-clause-over c = refuses_what_is_over
