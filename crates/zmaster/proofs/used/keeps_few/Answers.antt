use Rattle.std.proofs.Common.{arith}
use Rattle.zmaster.proofs.Marks.{few_numbers}
use Rattle.zmaster.proofs.used.keeps_few.Goals as goal

pub returns : goal.returns
returns c = omega (arith, few_numbers 1 c.args.used.now, c.told-used)
