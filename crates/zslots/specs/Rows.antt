-- The Ids and the run of the worked examples.
use Rattle.std.specs.Prelude.{ℕ, List, [], ◌∷◌}
use Rattle.zslots.specs.declared.id.Id.{Id}
use Rattle.zslots.specs.Runs.{Change}
use Rattle.zslots.specs.Runs.Change.{Insert, Remove, Write}

-- the first Id that is given out
abbrev pub a : Id
a = record { index = 0; generation = record { high = 0; low = 0 } }

-- the second one, in the next slot
abbrev pub b : Id
b = record { index = 1; generation = record { high = 0; low = 1 } }

-- an Id in the slot of a, after that item was removed
abbrev pub c : Id
c = record { index = 0; generation = record { high = 0; low = 2 } }

-- insert an item, remove it, insert another one, write to that one
abbrev pub reuse : List (Change ℕ)
reuse = Insert a 7 ∷ Remove a ∷ Insert c 8 ∷ Write c 9 ∷ []
