use Rattle.std.proofs.Common.{arith, sym, ◌∙◌}
use Rattle.ztree.proofs.Maps.{none_some}
use Rattle.ztree.specs.support.Samples.{some_session}
use Rattle.zstore.proofs.Worked.{session_there, no_session, one_session}
use Rattle.zstore.proofs.rows.sessions_that_can_be_put.Goals as goal

pub returns-clause-yes : goal.returns-clause-yes
returns-clause-yes c = record {
  free = no_session 10 (λ e. absurd (omega (arith, e)));
  somebody = omega arith;
  lives = omega arith;
  few = one_session;
}

pub returns-clause-taken : goal.returns-clause-taken
returns-clause-taken c = λ can. none_some some_session (sym can.free ∙ session_there)

pub returns-clause-nobody : goal.returns-clause-nobody
returns-clause-nobody c = λ can. absurd (omega (arith, can.somebody))

pub returns-clause-expired : goal.returns-clause-expired
returns-clause-expired c = λ can. absurd (omega (arith, can.lives))
