use Rattle.std.proofs.Common.{rules}
use Rattle.zcalls.proofs.reply.PartReply.copied.Goals as goal

pub returns-in-Checked : goal.returns-in-Checked
returns-in-Checked c = search rules
