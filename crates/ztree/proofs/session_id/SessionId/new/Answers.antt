use Rattle.std.proofs.Common.{rules}
use Rattle.ztree.proofs.session_id.SessionId.new.Goals as goal

pub returns : goal.returns
returns c = search rules
