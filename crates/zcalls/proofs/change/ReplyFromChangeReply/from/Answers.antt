use Rattle.std.proofs.Common.{rules}
use Rattle.zcalls.proofs.change.ReplyFromChangeReply.from.Goals as goal

pub returns-in-Created : goal.returns-in-Created
returns-in-Created c = search rules
