use Rattle.std.proofs.Common.{◌≡◌, length}
use Rattle.zslots.specs.Ids.{Ids}
use Rattle.zslots.specs.support.Walk.{walk, IsWalk}
use Rattle.znodes.specs.support.Rows.{sibling_links}
use Rattle.znodes.specs.support.Reading.{names_at}
use Rattle.znodes.proofs.children.last_names.Given as goal

-- the names are those of the rows passed
abbrev pub invariant-loop-at : goal.invariant-loop-at
invariant-loop-at l =
    (passed : Ids) × IsWalk sibling_links l.slots.items l.list passed l.at
    × (l.names.items ≡ names_at l.slots.items passed)

abbrev pub decreases-loop-at : goal.decreases-loop-at
decreases-loop-at l = length (walk sibling_links l.list.len l.slots.items l.at)
