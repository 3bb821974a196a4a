use Rattle.std.proofs.Common.{rules}
use Rattle.zcalls.proofs.listed.Replies.new.Goals as goal

pub returns : goal.returns
returns c = search rules
