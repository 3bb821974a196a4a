-- What a world's calls promise. Each does what the definition says. The events are resolved first,
-- since processes can run out of memory.
use Rattle.std.specs.Prelude.{◌≡◌, ◌<◌, ℕ, Bool, true, false, not, List, [], ◌∷◌, ◌++◌}
use Rattle.ztree.specs.Tree.{Tree}
use Rattle.zcalls.specs.Cached.{CachedState}
use Rattle.zprotocol.specs.server.Machine.{cached_tree}
use Rattle.zprotocol.specs.declared.process.Process.{Process}
use Rattle.zprotocol.specs.declared.world.event.Event.{Event}
use Rattle.zprotocol.specs.declared.world.event.Event.TheVariants.{Retry, Take, Ignore, Fail}
use Rattle.zprotocol.specs.declared.world.outcome.Outcome.{Outcome}
use Rattle.zprotocol.specs.declared.world.outcome.Outcome.TheVariants.{Acted}
use Rattle.zprotocol.specs.declared.world.settled.Settled.{Settled}
use Rattle.zprotocol.specs.world.History.{History}
use Rattle.zprotocol.specs.world.World.{World}
use Rattle.zprotocol.specs.world.Events.{is_enabled, happens, run}
use Rattle.zprotocol.specs.world.Reading.{read, is_fitting, IsReading}
use Rattle.zprotocol.specs.world.Settle.{Settling, settle, settling_end}
use Rattle.zprotocol.specs.world.PlainTree.{IsExplained}
use Rattle.zprotocol.specs.world.FromTree.{CanStart, IsExplainedFrom}
use Rattle.zworld.specs.declared.did.Did.{Did}
use Rattle.zworld.specs.Held.{Held, world_of}
use Rattle.zworld.specs.Did.{is_idle, outcome_of}

-- A world: all processes, what callers saw, whether a past before that was forgotten, whether it
-- began with the tree of a snapshot, and whether memory ever ran out. If it began so, the past that
-- led to the tree counts as forgotten. Once memory ran out, nothing is promised of the processes
pub record WorldView : Type 0 where
  pub held : Held
  pub history : History
  pub has_forgotten : Bool
  pub is_restored : Bool
  pub is_broken : Bool

-- memory never ran out
abbrev pub IsSound : WorldView → Type 0
IsSound w = w.is_broken ≡ false

-- the world of the definition that it represents
abbrev pub world_in : WorldView → World (CachedState Tree)
world_in w = world_of w.held w.history

-- all that callers saw is linearizable: a past that was forgotten, and then the history. Where
-- nothing was forgotten there is no past
abbrev pub IsExplainedWithPast : WorldView → Type 0
IsExplainedWithPast w = (past : History) × (w.has_forgotten ≡ false → past ≡ []) × IsExplained (past ++ w.history)

-- the same of a world that may have begun with the tree of a snapshot. All that callers saw is
-- linearizable from some tree on that a chain can begin with; where the world began with the
-- initial tree, from that
abbrev pub IsExplainedFromStart : WorldView → Type 0
IsExplainedFromStart w =
    (w.is_restored ≡ false → IsExplainedWithPast w)
    × ((t : Tree) × (past : History) × CanStart t × IsExplainedFrom t (past ++ w.history))

-- an event led from one world to another
pub record HasHappened (v : World (CachedState Tree)) (event : Event) (did : Did) (w : World (CachedState Tree)) : Type 0 where
  -- it is idle exactly where it wasn't enabled
  pub idle : is_idle did ≡ not (is_enabled v event)
  -- the outcome that is returned fits the event
  pub fits : is_fitting cached_tree v event (outcome_of did) ≡ true
  -- it is the event of the definition, resolved by that outcome
  pub leads : happens cached_tree v (read cached_tree v event (outcome_of did)) ≡ w

-- a world did an event, and this became of it
abbrev pub HasDone : WorldView → WorldView → Event → Did → Type 0
HasDone old new event did = HasHappened (world_in old) event did (world_in new)

-- an event can run out of memory: it is enabled, and it is neither a failure nor the loss of a
-- request
abbrev pub can_want_memory : World (CachedState Tree) → Event → Bool
can_want_memory w (Fail s) = false
can_want_memory w (Ignore from to) = false
can_want_memory w event = is_enabled w event

-- the same, of the program's world
abbrev pub CanWantMemory : WorldView → Event → Type 0
CanWantMemory w event = can_want_memory (world_in w) event ≡ true

-- the events of which settling is made: deliveries and retries
abbrev pub is_of_settling : Event → Bool
is_of_settling (Retry client) = true
is_of_settling (Take from to) = true
is_of_settling event = false

-- settling with this limit can run out of memory: it may do an event, and a delivery or a retry can
-- run out of memory
abbrev pub CanWantMemoryToSettle : World (CachedState Tree) → ℕ → Type 0
CanWantMemoryToSettle w limit = (0 < limit) × (event : Event) × (is_of_settling event ≡ true) × (can_want_memory w event ≡ true)

-- events led from one world to another, resolved by some outcomes
abbrev pub HasRun : World (CachedState Tree) → List Event → World (CachedState Tree) → Type 0
HasRun v events w = (readings : List Event) × IsReading cached_tree v events readings × (run cached_tree v readings ≡ w)

-- some of the events, from the first on, were done, resolved by some outcomes, and this is the
-- history
abbrev pub HasBegunToRun : World (CachedState Tree) → List Event → History → Type 0
HasBegunToRun v events history =
    (front back : List Event) × (events ≡ front ++ back)
    × (readings : List Event) × IsReading cached_tree v front readings × ((run cached_tree v readings).history ≡ history)

-- the same, and the next of the events can run out of memory in the world that they led to
abbrev pub HasRunOut : World (CachedState Tree) → List Event → History → Type 0
HasRunOut v events history =
    (front back : List Event) × (event : Event) × (events ≡ front ++ event ∷ back)
    × (readings : List Event) × IsReading cached_tree v front readings × ((run cached_tree v readings).history ≡ history)
    × (can_want_memory (run cached_tree v readings) event ≡ true)

-- a settling ended this way, used up all outcomes but these, and led to this world
abbrev pub Ends : Settling (CachedState Tree) → Settled → List Outcome → World (CachedState Tree) → Type 0
Ends did settled later w = (settled ≡ settling_end did) × (did.outcomes ≡ later) × (did.world ≡ w)

-- settling led from one world to another, and ended this way. It is that of the definition, by some
-- outcomes of its events: it used up all of those, and would use no further ones
abbrev pub HasSettled : World (CachedState Tree) → ℕ → Settled → World (CachedState Tree) → Type 0
HasSettled v limit settled w =
    (outcomes : List Outcome) × ((later : List Outcome) → Ends (settle cached_tree v limit (outcomes ++ later)) settled later w)

-- no server ran out of memory at any of these events
abbrev pub AreActed : List Outcome → Type 0
AreActed [] = Unit {0}
AreActed (outcome ∷ outcomes) = (outcome ≡ Acted) × AreActed outcomes

-- the same, and no server ran out of memory meanwhile
abbrev pub HasSettledActing : World (CachedState Tree) → ℕ → Settled → World (CachedState Tree) → Type 0
HasSettledActing v limit settled w =
    (outcomes : List Outcome) × AreActed outcomes × ((later : List Outcome) → Ends (settle cached_tree v limit (outcomes ++ later)) settled later w)

-- a world settled, with at most this many events, and ended this way
abbrev pub IsSettled : WorldView → WorldView → ℕ → Settled → Type 0
IsSettled old new limit settled = HasSettled (world_in old) limit settled (world_in new)

-- the same, and no server ran out of memory meanwhile
abbrev pub IsSettledActing : WorldView → WorldView → ℕ → Settled → Type 0
IsSettledActing old new limit settled = HasSettledActing (world_in old) limit settled (world_in new)

-- no message can be delivered on any channel
abbrev pub IsAtRest : World (CachedState Tree) → Type 0
IsAtRest w = (from to : Process) → is_enabled w (Take from to) ≡ false
