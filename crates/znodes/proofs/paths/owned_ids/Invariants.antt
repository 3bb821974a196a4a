use Rattle.std.proofs.Common.{length}
use Rattle.zslots.specs.support.Walk.{walk, IsWalk}
use Rattle.znodes.specs.support.Rows.{fellow_links}
use Rattle.znodes.proofs.paths.owned_ids.Given as goal

-- what was found are the rows passed
abbrev pub invariant-loop-at : goal.invariant-loop-at
invariant-loop-at l = IsWalk fellow_links l.slots.items l.list l.found.items l.at

abbrev pub decreases-loop-at : goal.decreases-loop-at
decreases-loop-at l = length (walk fellow_links l.list.len l.slots.items l.at)
