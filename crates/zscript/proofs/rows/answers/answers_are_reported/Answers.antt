use Rattle.std.proofs.Common.{refl}
use Rattle.std.specs.Fmt.{digits}
use Rattle.zscript.proofs.rows.answers.answers_are_reported.Goals as goal

pub returns : goal.returns
unfolding digits
returns c = record { reported = refl; other_call = refl; own_call = refl; own_reply = refl; no_reply = refl }
