use Rattle.std.proofs.Common.{rules}
use Rattle.zcalls.proofs.listed.Replies.as_slice.Goals as goal

pub returns : goal.returns
returns c = search rules
