use Rattle.zaudit.proofs.Complete.{only_memory}
use Rattle.zaudit.proofs.auditing.audit.Goals as goal

pub returns-in-Err-clause-complete : goal.returns-in-Err-clause-complete
returns-in-Err-clause-complete c = only_memory c.args.traces.now c.in-Err.fault c.in-Err.ensures.cut c.in-Err.ensures.disorder
    c.in-Err.ensures.mismatch
