use Rattle.std.proofs.Common.{arith}
use Rattle.std.proofs.lemmas.Grind.{common_steps}
use Rattle.zprotocol.proofs.out_list.Out.put.Goals as goal

pub returns-clause-put : goal.returns-clause-put
returns-clause-put g c = grind (arith, common_steps)
