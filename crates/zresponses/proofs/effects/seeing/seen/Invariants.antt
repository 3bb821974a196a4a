use Rattle.std.proofs.Common.{◌≡◌, ◌++◌, drop}
use Rattle.zresponses.specs.effects.Looking as table
use Rattle.zresponses.proofs.effects.seeing.seen.Given as goal

abbrev pub invariant-loop-index : goal.invariant-loop-index
invariant-loop-index l =
    l.events.items ++ table.seen l.zxid (drop l.index l.paths) (drop l.index l.replies) ≡ table.seen l.zxid l.paths l.replies
