use Rattle.zguard.proofs.Heads.{length_waits}
use Rattle.zguard.proofs.judging.judge_part.Goals as goal

pub returns-in_default : goal.returns-in_default
returns-in_default c = length_waits c.args.came.now _ c.in_default.ensures.cases
