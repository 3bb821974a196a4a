use Rattle.std.proofs.Common.{◌≡◌, ◌++◌}
use Rattle.std.specs.Map.{keys_of}
use Rattle.znodes.proofs.index.keys_of_all.Given as goal

-- the paths so far, and those that are left, are all
abbrev pub invariant-loop-path : goal.invariant-loop-path
invariant-loop-path l = l.paths.items ++ keys_of l.path-iterator ≡ keys_of l.ids.entries
