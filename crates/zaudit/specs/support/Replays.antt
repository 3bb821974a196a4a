-- What is replayed on a world: an event, the event that a step represents, and all events of the
-- traces.
use Rattle.std.specs.Prelude.{◌≡◌, ◌<◌, ℕ, true, false, List}
use Rattle.zprotocol.specs.declared.process.Process.{Process}
use Rattle.zprotocol.specs.server.Machine.{cached_tree}
use Rattle.zprotocol.specs.declared.world.event.Event.{Event}
use Rattle.zprotocol.specs.world.Events.{happens}
use Rattle.zworld.specs.Steps.{WorldView, world_in}
use Rattle.zprotocol.specs.declared.traces.trace.Act.{Act}
use Rattle.zprotocol.specs.declared.traces.trace.Traces.{Traces}
use Rattle.zprotocol.specs.traces.Traces.{event_of, is_in_place, is_step_in_place, step_happens}
use Rattle.zprotocol.specs.traces.support.Places.{place_count, unread, HasReplayed, IsAllRead}

-- an event is enabled at its position, and happens
abbrev pub HappensInPlace : WorldView → Event → WorldView → Type 0
HappensInPlace old event new =
    (is_in_place (world_in old) event ≡ true) × (happens cached_tree (world_in old) event ≡ world_in new)

-- it isn't enabled there
abbrev pub CannotHappen : WorldView → Event → Type 0
CannotHappen world event = is_in_place (world_in world) event ≡ false

-- a step of a process represents an event that is enabled at its position, which happens
abbrev pub ActsInPlace : WorldView → Process → Act → WorldView → Type 0
ActsInPlace old process act new =
    (is_step_in_place (world_in old) (event_of process act) ≡ true)
    × (step_happens cached_tree (world_in old) (event_of process act) ≡ world_in new)

-- the step represents no event, or one that isn't enabled there
abbrev pub CannotAct : WorldView → Process → Act → Type 0
CannotAct world process act = is_step_in_place (world_in world) (event_of process act) ≡ false

-- fewer events are left in the traces
abbrev pub LeavesFewer : Traces → List ℕ → List ℕ → Type 0
LeavesFewer t old new = unread t new (place_count t) < unread t old (place_count t)

-- all events of the traces were replayed
abbrev pub HasReplayedAll : Traces → WorldView → Type 0
HasReplayedAll t world = (read : List ℕ) × HasReplayed t read (world_in world) × IsAllRead t read
