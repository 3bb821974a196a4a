-- A world that settled, strictly or not.
use Rattle.std.specs.Prelude.{ℕ, Bool, List, ◌++◌}
use Rattle.ztree.specs.Tree.{Tree}
use Rattle.zcalls.specs.Cached.{CachedState}
use Rattle.zprotocol.specs.server.Machine.{cached_tree}
use Rattle.zprotocol.specs.declared.world.outcome.Outcome.{Outcome}
use Rattle.zprotocol.specs.declared.world.settled.Settled.{Settled}
use Rattle.zprotocol.specs.world.Settle.{settle}
use Rattle.zprotocol.specs.world.World.{World}
use Rattle.zworld.specs.Steps.{WorldView, Ends, world_in}
use Rattle.zworld.specs.support.Settling.{MayLearn}

-- settling led from one world to another, and ended this way; where it was strict, no server ran
-- out of memory
abbrev pub HasSettledBy : Bool → World (CachedState Tree) → ℕ → Settled → World (CachedState Tree) → Type 0
HasSettledBy strict v limit settled w =
    (outcomes : List Outcome) × MayLearn strict outcomes × ((later : List Outcome) → Ends (settle cached_tree v limit (outcomes ++ later)) settled later w)

-- the same, of the program's worlds
abbrev pub IsSettledBy : Bool → WorldView → WorldView → ℕ → Settled → Type 0
IsSettledBy strict old new limit settled = HasSettledBy strict (world_in old) limit settled (world_in new)
