use Rattle.std.proofs.Common.{rules}
use Rattle.zstore.proofs.store.Store.seq.Goals as goal

pub returns-clause-seq : goal.returns-clause-seq
returns-clause-seq c = search rules
