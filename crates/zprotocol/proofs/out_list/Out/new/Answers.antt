use Rattle.std.proofs.Common.{rules}
use Rattle.zprotocol.proofs.out_list.Out.new.Goals as goal

pub returns : goal.returns
returns g c = search rules
