use Rattle.std.proofs.Common.{inr, refl, arith}
use Rattle.zpeers.specs.declared.fault.PeerFault.TheVariants as peer
use Rattle.znode.proofs.rows.bad_records_of_clients_are_dropped.Goals as goal

pub returns-clause-client : goal.returns-clause-client
returns-clause-client c = λ loaded. inr ((peer.NoTag, (λ e. cc), (omega arith, omega arith)), refl, refl)

pub returns-clause-server : goal.returns-clause-server
returns-clause-server c = λ dropped. dropped
