use Rattle.std.proofs.Common.{◌≡◌, ◌++◌}
use Rattle.std.specs.Map.{keys_of}
use Rattle.zconnections.proofs.attachments.listing.all_among.Given as goal

-- the ids so far and those of what is left are all
abbrev pub invariant-loop-id : goal.invariant-loop-id
invariant-loop-id l = l.ids.items ++ keys_of l.id-iterator ≡ keys_of l.table.entries
