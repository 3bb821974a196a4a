use Rattle.std.proofs.Common.{rules}
use Rattle.zscript_text.proofs.reply.write_data.Goals as goal

pub returns : goal.returns
returns c = search rules
