use Rattle.std.proofs.Common.{rules}
use Rattle.zcodec.proofs.writing.put_buffer.Goals as goal

pub returns-in-None-clause-ok : goal.returns-in-None-clause-ok
returns-in-None-clause-ok c = search rules
