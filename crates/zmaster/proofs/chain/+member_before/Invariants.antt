use Rattle.std.proofs.Common.{length}
use Rattle.zmaster.proofs.chain.+member_before.Given as goal

abbrev pub decreases-member_before : goal.decreases-member_before
decreases-member_before l = length l.members.now
