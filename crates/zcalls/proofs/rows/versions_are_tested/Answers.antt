use Rattle.std.proofs.Common.{refl}
use Rattle.zcalls.specs.Part.{delete_step, set_step}
use Rattle.zcalls.proofs.rows.versions_are_tested.Goals as goal

pub returns-clause-delete : goal.returns-clause-delete
unfolding delete_step
returns-clause-delete c = λ t there childless. rw (there, childless) refl

pub returns-clause-delete_of_another : goal.returns-clause-delete_of_another
unfolding delete_step
returns-clause-delete_of_another c = λ t there. rw there refl

pub returns-clause-set_of_another : goal.returns-clause-set_of_another
unfolding set_step
returns-clause-set_of_another c = λ t there. rw there refl
