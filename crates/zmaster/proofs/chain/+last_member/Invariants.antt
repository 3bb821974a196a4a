use Rattle.std.proofs.Common.{length}
use Rattle.zmaster.proofs.chain.+last_member.Given as goal

abbrev pub decreases-last_member : goal.decreases-last_member
decreases-last_member l = length l.members.now
