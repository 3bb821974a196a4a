use Rattle.std.proofs.Common.{◌≡◌, length}
use Rattle.std.specs.List.{filter_map}
use Rattle.zslots.specs.Ids.{Ids}
use Rattle.zslots.specs.support.Walk.{walk, IsWalk}
use Rattle.zsessions.specs.support.Rows.{row_links, due_at}
use Rattle.zsessions.proofs.reached.reached.Given as goal

-- the walk has passed these, and what was found is what is due of them
abbrev pub invariant-loop-at : goal.invariant-loop-at
invariant-loop-at l =
    (passed : Ids) × IsWalk row_links l.rows.items l.bucket passed l.at
    × (l.found.items ≡ filter_map (due_at l.rows.items l.tick) passed)

abbrev pub decreases-loop-at : goal.decreases-loop-at
decreases-loop-at l = length (walk row_links l.bucket.len l.rows.items l.at)
