-- What holds of settling and of resolved events, in every world. Each statement is a contract in
-- `src/laws.rt`.
use Rattle.std.specs.Prelude.{◌≡◌, ◌⊎◌, ◌≤◌, ◌*◌, [], ℕ, ◌+◌, true, false, List, length}
use Rattle.std.specs.List.{list_any}
use Rattle.ztree.specs.Tree.{Tree}
use Rattle.zcalls.specs.Cached.{CachedState}
use Rattle.zcalls.specs.Lists.{Among}
use Rattle.zprotocol.specs.server.Machine.{cached_tree}
use Rattle.zprotocol.specs.declared.world.outcome.Outcome.{Outcome}
use Rattle.zprotocol.specs.declared.world.settled.Settled.TheVariants.{Quiet}
use Rattle.zprotocol.specs.declared.world.event.Event.{Event}
use Rattle.zprotocol.specs.declared.world.event.Event.TheVariants.{Take}
use Rattle.zprotocol.specs.declared.limits.TheConstants.{MAX_SERVERS}
use Rattle.zprotocol.specs.declared.process.Process.{Process}
use Rattle.zprotocol.specs.world.World.{World, opening_world}
use Rattle.zprotocol.specs.world.Reading.{read, reading_by, is_fitting}
use Rattle.zprotocol.specs.Places.{is_server}
use Rattle.zprotocol.specs.world.Events.{is_enabled, run}
use Rattle.zprotocol.specs.world.Settle.{Settling, settle, settling_end, deliveries}

-- settling the world of the service
abbrev pub settling_of : World (CachedState Tree) → ℕ → List Outcome → Settling (CachedState Tree)
settling_of w limit outcomes = settle cached_tree w limit outcomes

-- settling is a run: its events lead to its world
abbrev pub SettlingIsARun : Type 0
SettlingIsARun =
    (w : World (CachedState Tree)) (limit : ℕ) (outcomes : List Outcome)
    → (settling_of w limit outcomes).world ≡ run cached_tree w (settling_of w limit outcomes).events

-- its events, and those that it might still do, are as many as the limit
abbrev pub SettlingKeepsItsLimit : Type 0
SettlingKeepsItsLimit =
    (w : World (CachedState Tree)) (limit : ℕ) (outcomes : List Outcome)
    → (settling_of w limit outcomes).left + length (settling_of w limit outcomes).events ≡ limit

-- where it ends Quiet, no message can be delivered
abbrev pub QuietHasNothingToTake : Type 0
QuietHasNothingToTake =
    (w : World (CachedState Tree)) (limit : ℕ) (outcomes : List Outcome)
    → settling_end (settling_of w limit outcomes) ≡ Quiet
    → list_any (is_enabled (settling_of w limit outcomes).world) (deliveries w.master.clients) ≡ false

-- where an outcome fits, the event resolves as it says
abbrev pub FittingOutcomesAreRead : Type 0
FittingOutcomesAreRead =
    (w : World (CachedState Tree)) (event : Event) (outcome : Outcome)
    → is_fitting cached_tree w event outcome ≡ true → read cached_tree w event outcome ≡ reading_by event outcome

-- the world after events, from the initial world with this many servers and clients
abbrev pub world_after : ℕ → ℕ → List Event → World (CachedState Tree)
world_after servers clients events = run cached_tree (opening_world cached_tree servers clients) events

-- from an initial world, every channel that holds a message is among those that settling visits
abbrev pub LinksAreVisited : Type 0
LinksAreVisited =
    (servers clients : ℕ) (events : List Event) (from to : Process) → is_server servers ≡ true
    → ((world_after servers clients events).links from to ≡ []) ⊎ Among (Take from to) (deliveries clients)

-- and the master gives at most three epochs for each possible server
abbrev pub EpochsAreFew : Type 0
EpochsAreFew =
    (servers clients : ℕ) (events : List Event) → is_server servers ≡ true
    → (world_after servers clients events).master.epoch ≤ 3 * MAX_SERVERS

-- so where settling ends Quiet, no message can be delivered on any channel
abbrev pub QuietIsQuiet : Type 0
QuietIsQuiet =
    (servers clients limit : ℕ) (events : List Event) (outcomes : List Outcome) (from to : Process) → is_server servers ≡ true
    → settling_end (settling_of (world_after servers clients events) limit outcomes) ≡ Quiet
    → is_enabled (settling_of (world_after servers clients events) limit outcomes).world (Take from to) ≡ false
