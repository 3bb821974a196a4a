use Rattle.std.proofs.Common.{refl}
use Rattle.std.specs.Fmt.{digits}
use Rattle.base64.proofs.OnLiterals.{base64_on_literals}
use Rattle.zscript_text.proofs.rows.done_replies.Goals as goal

pub returns-clause-set : goal.returns-clause-set
unfolding digits
returns-clause-set c = refl

pub returns-clause-multi_set : goal.returns-clause-multi_set
unfolding digits
returns-clause-multi_set c = refl

pub returns-clause-data : goal.returns-clause-data
unfolding digits base64_on_literals
returns-clause-data c = refl

pub returns-clause-no_data : goal.returns-clause-no_data
unfolding digits
returns-clause-no_data c = refl

pub returns-clause-exists : goal.returns-clause-exists
unfolding digits
returns-clause-exists c = refl

pub returns-clause-children : goal.returns-clause-children
unfolding digits
returns-clause-children c = refl
