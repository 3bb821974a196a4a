use Rattle.std.proofs.Common.{◌≡◌, length}
use Rattle.zslots.specs.Ids.{Ids}
use Rattle.zslots.specs.support.Walk.{walk, IsWalk}
use Rattle.znodes.specs.support.Rows.{timed_links}
use Rattle.znodes.specs.support.Reading.{stale_of}
use Rattle.znodes.proofs.stale.stale_in.Given as goal

-- what was found are those of the rows passed
abbrev pub invariant-loop-at : goal.invariant-loop-at
invariant-loop-at l =
    (passed : Ids) × IsWalk timed_links l.slots.items l.list passed l.at
    × (l.stale.items ≡ stale_of l.slots.items l.tick passed)

abbrev pub decreases-loop-at : goal.decreases-loop-at
decreases-loop-at l = length (walk timed_links l.list.len l.slots.items l.at)
