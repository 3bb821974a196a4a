use Rattle.std.proofs.Common.{refl, arith}
use Rattle.zprotocol.proofs.world_lemmas.Tables.{all_tables}
use Rattle.zprotocol.proofs.traces.worked.write_goes_by_the_tables.Goals as goal

pub returns-clause-client : goal.returns-clause-client
unfolding all_tables
returns-clause-client c = (refl, omega arith, (refl, omega arith, tt))

pub returns-clause-server : goal.returns-clause-server
unfolding all_tables
returns-clause-server c = (refl, refl, tt)
