use Rattle.std.proofs.Common.{rules}
use Rattle.zprotocol.proofs.out_list.Out.put_reserved.Goals as goal

pub returns-clause-put : goal.returns-clause-put
returns-clause-put g c = search rules
