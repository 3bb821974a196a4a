use Rattle.std.proofs.Common.{◌≡◌, take}
use Rattle.znodes.specs.support.Reading.{paths_at}
use Rattle.znodes.proofs.paths.row_paths.Given as goal

-- the paths are those of the rows passed
abbrev pub invariant-loop-id : goal.invariant-loop-id
invariant-loop-id l = l.paths.items ≡ paths_at l.slots.items (take l.id-index l.ids)
