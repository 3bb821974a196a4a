use Rattle.std.proofs.Common.{rules}
use Rattle.zcodec.proofs.writing.put_flag.Goals as goal

pub returns-clause-ok : goal.returns-clause-ok
returns-clause-ok c = search rules
