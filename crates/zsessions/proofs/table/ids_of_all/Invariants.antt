use Rattle.std.proofs.Common.{◌≡◌, ◌++◌}
use Rattle.std.specs.Map.{keys_of}
use Rattle.zsessions.proofs.table.ids_of_all.Given as goal

-- the ids so far, and those that are left, are all
abbrev pub invariant-loop-number : goal.invariant-loop-number
invariant-loop-number l = l.found.items ++ keys_of l.number-iterator ≡ keys_of l.ids.entries
