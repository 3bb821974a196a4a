-- What a world holds of its past, and runs, one event after the other.
use Rattle.std.specs.Prelude.{◌≡◌, ℕ, Bool, true, false, List, [], ◌∷◌, ◌++◌}
use Rattle.ztree.specs.Tree.{Tree, opening_tree}
use Rattle.zcalls.specs.Cached.{CachedState}
use Rattle.zprotocol.specs.server.Machine.{cached_tree}
use Rattle.zprotocol.specs.declared.world.event.Event.{Event}
use Rattle.zprotocol.specs.declared.world.outcome.Outcome.{Outcome}
use Rattle.zprotocol.specs.world.History.{History}
use Rattle.zprotocol.specs.world.World.{World}
use Rattle.zprotocol.specs.Places.{is_server}
use Rattle.zprotocol.specs.world.Events.{happens}
use Rattle.zprotocol.specs.world.Reading.{read}
use Rattle.zprotocol.specs.world.FromTree.{CanStart, world_after_from}
use Rattle.zworld.specs.Held.{Held, world_of}

-- There is a run from an initial world whose history is a past and then this history. Where nothing
-- was forgotten there is no past. Unless memory ran out, the processes are where the run ends. The
-- run begins with a tree: the initial one, unless the world was restored
pub record HasPast (is_restored has_forgotten is_broken : Bool) (held : Held) (history : History) : Type 0 where
  pub tree : Tree
  pub can_start : CanStart tree
  pub initial : is_restored ≡ false → tree ≡ opening_tree
  pub lasting : has_forgotten ≡ false → is_restored ≡ false
  pub servers : ℕ
  pub clients : ℕ
  pub events : List Event
  pub past : History
  pub opens : is_server servers ≡ true
  pub whole : has_forgotten ≡ false → past ≡ []
  pub reported : (world_after_from tree servers clients events).history ≡ past ++ history
  pub stands : is_broken ≡ false → world_after_from tree servers clients events ≡ world_of held (past ++ history)

-- the events lead from one world to another, one after the other, each resolved by some outcome
abbrev pub LeadRead : World (CachedState Tree) → List Event → World (CachedState Tree) → Type 0
LeadRead v [] w = v ≡ w
LeadRead v (event ∷ events) w =
    (outcome : Outcome) × LeadRead (happens cached_tree v (read cached_tree v event outcome)) events w
