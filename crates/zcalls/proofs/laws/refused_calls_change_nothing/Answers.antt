use Rattle.zcalls.proofs.Refused.{refused_changes_nothing, refused_multi_changes_nothing}
use Rattle.zcalls.proofs.laws.refused_calls_change_nothing.Goals as goal

pub returns-clause-call : goal.returns-clause-call
returns-clause-call c = refused_changes_nothing

pub returns-clause-multi : goal.returns-clause-multi
returns-clause-multi c = refused_multi_changes_nothing
