use Rattle.std.proofs.Common.{◌≡◌, ◌++◌}
use Rattle.zconnections.specs.attachments.support.Entries.{touched_among}
use Rattle.zconnections.proofs.attachments.listing.touched_among.Given as goal

-- the ids so far and those of what is left are all
abbrev pub invariant-loop-id : goal.invariant-loop-id
invariant-loop-id l = l.ids.items ++ touched_among l.id-iterator ≡ touched_among l.table.entries
