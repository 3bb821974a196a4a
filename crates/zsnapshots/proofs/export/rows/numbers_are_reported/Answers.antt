use Rattle.std.proofs.Common.{refl}
use Rattle.std.specs.Fmt.{digits}
use Rattle.zsnapshots.specs.export.Texts.{around, left_out_text, stat_text}
use Rattle.zsnapshots.proofs.export.rows.numbers_are_reported.Goals as goal

pub returns-clause-left_out : goal.returns-clause-left_out
unfolding around left_out_text digits
returns-clause-left_out c = refl

pub returns-clause-stat : goal.returns-clause-stat
unfolding around stat_text digits
returns-clause-stat c = refl
