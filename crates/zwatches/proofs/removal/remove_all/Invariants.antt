use Rattle.std.proofs.Common.{length}
use Rattle.zwatches.proofs.Found.{IsWithout}
use Rattle.zwatches.proofs.removal.remove_all.Given as goal

-- the connection's watches are at the paths that are left, and others are as they were
abbrev pub invariant-loop-path : goal.invariant-loop-path
invariant-loop-path l = IsWithout l.initial.watches l.connection l.left.keys l.watches

abbrev pub decreases-loop-path : goal.decreases-loop-path
decreases-loop-path l = length l.left.keys
