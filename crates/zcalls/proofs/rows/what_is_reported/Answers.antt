use Rattle.std.proofs.Common.{refl}
use Rattle.zcalls.specs.Step.{query_reply}
use Rattle.zcalls.proofs.rows.what_is_reported.Goals as goal

pub returns-clause-data : goal.returns-clause-data
unfolding query_reply
returns-clause-data c = λ t there childless. rw (there, childless) refl

pub returns-clause-no_data : goal.returns-clause-no_data
unfolding query_reply
returns-clause-no_data c = λ t none. rw none refl
