use Rattle.std.proofs.Common.{refl}
use Rattle.zcalls.specs.Part.{acl_step}
use Rattle.zcalls.proofs.rows.lists_are_tested.Goals as goal

pub returns-clause-other : goal.returns-clause-other
unfolding acl_step
returns-clause-other c = λ t there. rw there refl

pub returns-clause-none : goal.returns-clause-none
unfolding acl_step
returns-clause-none c = λ t none. rw none refl
