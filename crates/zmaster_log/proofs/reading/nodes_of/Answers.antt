use Rattle.std.proofs.Common.{arith}
use Rattle.zmaster_log.proofs.Bytes.{few_nodes}
use Rattle.zmaster_log.proofs.reading.nodes_of.Goals as goal

pub names_with-requires : goal.names_with-requires
names_with-requires c = few_nodes c.args.bytes.now (c.in_ok-names.names.items, c.in_ok-names.rest.now) (λ i. omega (arith, c.type_inv.bytes i)) c.in_ok-names.ensures
