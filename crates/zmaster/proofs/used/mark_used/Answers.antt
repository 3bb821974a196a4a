use Rattle.std.proofs.Common.{◌-◌, arith}
use Rattle.zmaster.proofs.Marks.{marked_number}
use Rattle.zmaster.proofs.used.mark_used.Goals as goal

pub returns : goal.returns
returns c = marked_number 1 (c.number.result - 1) c.args.used.now c.args.server (omega arith) (omega arith)
