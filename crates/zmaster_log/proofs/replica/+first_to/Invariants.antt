use Rattle.std.proofs.Common.{length}
use Rattle.zmaster_log.proofs.replica.+first_to.Given as goal

abbrev pub decreases-first_to : goal.decreases-first_to
decreases-first_to g l = length l.posts.now.posts
