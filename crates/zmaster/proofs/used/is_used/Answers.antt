use Rattle.std.proofs.Common.{◌-◌, arith}
use Rattle.zmaster.proofs.Marks.{among_marks}
use Rattle.zmaster.proofs.used.is_used.Goals as goal

pub returns : goal.returns
returns c = among_marks 1 (c.number.result - 1) c.args.used.now c.args.server (omega arith) (omega arith)
