use Rattle.zscript.proofs.Replies.{calls_are_answered_by_their_replies}
use Rattle.zscript.proofs.laws.calls_are_answered_by_their_replies.Goals as goal

pub returns : goal.returns
returns c = calls_are_answered_by_their_replies
