use Rattle.std.proofs.Common.{◌≡◌, drop}
use Rattle.std.specs.FinSet.{items}
use Rattle.zwatches.specs.Events.{above}
use Rattle.zwatches.specs.support.Groups.{found_by}
use Rattle.zwatches.proofs.firing.has_above.Given as goal

-- of the positions that are left one has a watch exactly if one of all has
abbrev pub invariant-loop-depth : goal.invariant-loop-depth
invariant-loop-depth l = found_by (items l.watches) (drop l.depth (above l.names)) ≡ found_by (items l.watches) (above l.names)
