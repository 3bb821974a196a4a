use Rattle.std.proofs.Common.{length}
use Rattle.znode.proofs.waiting.+accuse.Given as goal

abbrev pub decreases-accuse : goal.decreases-accuse
decreases-accuse l = length l.reports.now
