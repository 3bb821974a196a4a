use Rattle.std.proofs.Common.{refl}
use Rattle.std.specs.Fmt.{digits}
use Rattle.zscript_text.proofs.rows.refused_replies.Goals as goal

pub returns-clause-multi : goal.returns-clause-multi
unfolding digits
returns-clause-multi c = refl
