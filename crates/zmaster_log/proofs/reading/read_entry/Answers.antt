use Rattle.std.proofs.Common.{arith}
use Rattle.zmaster_log.proofs.Bytes.{spelled_in}
use Rattle.zmaster_log.proofs.reading.read_entry.Goals as goal

pub returns-clause-spelled : goal.returns-clause-spelled
returns-clause-spelled c = spelled_in c.args.bytes.now c.whole_entry.result (λ i. omega (arith, c.type_inv.bytes i)) c.whole_entry.ensures
