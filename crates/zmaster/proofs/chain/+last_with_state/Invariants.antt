use Rattle.std.proofs.Common.{length}
use Rattle.zmaster.proofs.chain.+last_with_state.Given as goal

abbrev pub decreases-last_with_state : goal.decreases-last_with_state
decreases-last_with_state l = length l.members.now
