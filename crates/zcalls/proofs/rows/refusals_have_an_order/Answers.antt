use Rattle.std.proofs.Common.{refl}
use Rattle.zcalls.specs.Step.{step}
use Rattle.zcalls.proofs.rows.refusals_have_an_order.Goals as goal

pub returns : goal.returns
unfolding step
returns c = record { create = λ t client create. refl; delete = λ t delete. refl; exhausted = λ t client u e. rw e refl }
