use Rattle.zrace.proofs.Verdicts.{err_audit, never_against, ok_audit}
use Rattle.zrace.proofs.racing.audited.Goals as goal

pub returns-in-Ok-clause-audit : goal.returns-in-Ok-clause-audit
returns-in-Ok-clause-audit c =
    ok_audit c.args.traces.now c.in-Ok.history _ c.in-Ok.history.items c.in-Ok.ensures.found c.in-Ok.ensures.explained c.in-Ok.ensures.cut_first

pub returns-in-Err-clause-fault : goal.returns-in-Err-clause-fault
returns-in-Err-clause-fault c =
    never_against c.args.traces.now c.in-Err.fault c.requires c.in-Err.ensures.cut_first c.in-Err.ensures.complete

pub returns-in-Err-clause-audit : goal.returns-in-Err-clause-audit
returns-in-Err-clause-audit c =
    err_audit c.args.traces.now c.in-Err.fault c.requires c.in-Err.ensures.cut_first c.in-Err.ensures.complete
