use Rattle.std.proofs.Common.{rules}
use Rattle.zsessions.proofs.buckets.unfile.Goals as goal

pub returns-clause-items : goal.returns-clause-items
returns-clause-items c = c.unlink.ensures.items

pub returns-clause-buckets : goal.returns-clause-buckets
returns-clause-buckets c = search rules
