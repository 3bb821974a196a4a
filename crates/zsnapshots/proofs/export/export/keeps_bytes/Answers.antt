use Rattle.std.proofs.Common.{arith}
use Rattle.zsnapshots.proofs.export.export.keeps_bytes.Goals as goal

pub returns : goal.returns
returns c = λ i. omega (arith, c.type_inv.bytes i)
