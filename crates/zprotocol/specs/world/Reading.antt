-- What each event of a list resolves to, where processes can run out of memory. A server that runs
-- out of memory at a message stops, and that delivery is resolved to its failure. A query for which
-- it has no memory is lost.
use Rattle.std.specs.Prelude.{◌≡◌, Bool, true, false, ◌&&◌, if◌then◌else◌, List, [], ◌∷◌}
use Rattle.zprotocol.specs.declared.process.Process.{Process}
use Rattle.zprotocol.specs.declared.process.Process.TheVariants.{Server}
use Rattle.zprotocol.specs.server.Machine.{Does}
use Rattle.zprotocol.specs.server.Memory.{may_be_unheard, may_stop}
use Rattle.zprotocol.specs.server.View.{ServerView, MessageOf}
use Rattle.zprotocol.specs.declared.world.event.Event.{Event}
use Rattle.zprotocol.specs.declared.world.event.Event.TheVariants.{Take, Ignore, Fail}
use Rattle.zprotocol.specs.declared.world.outcome.Outcome.{Outcome}
use Rattle.zprotocol.specs.declared.world.outcome.Outcome.TheVariants.{Acted, Stopped, Unheard}
use Rattle.zprotocol.specs.world.World.{World}
use Rattle.zprotocol.specs.world.Events.{front_is, is_enabled, happens}

-- the event is an enabled delivery to a server, and the server, the sender and the message pass the
-- test
abbrev pub is_delivery : {M : Type 0} → World M → Event → (ServerView M → Process → MessageOf M → Bool) → Bool
is_delivery w (Take from (Server s)) test = is_enabled w (Take from (Server s)) && front_is (test (w.servers s) from) (w.links from (Server s))
is_delivery w event test = false

-- the outcome fits the event: a server stops, or drops a query, only where it may when out of
-- memory
abbrev pub is_fitting : {M : Type 0} → Does M → World M → Event → Outcome → Bool
is_fitting machine w event Acted = true
is_fitting machine w event Stopped = is_delivery w event (may_stop machine)
is_fitting machine w event Unheard = is_delivery w event (may_be_unheard machine)

-- what an event resolves to, by an outcome
abbrev pub reading_by : Event → Outcome → Event
reading_by (Take from (Server s)) Stopped = Fail s
reading_by (Take from (Server s)) Unheard = Ignore from (Server s)
reading_by event outcome = event

-- an event, resolved: by its outcome, if that fits, and else unchanged
abbrev pub read : {M : Type 0} → Does M → World M → Event → Outcome → Event
read machine w event outcome = if is_fitting machine w event outcome then reading_by event outcome else event

-- the events resolved, one after the other, by their outcomes; where no outcome is given, the
-- receiver acted
abbrev pub read_all : {M : Type 0} → Does M → World M → List Event → List Outcome → List Event
read_all machine w [] outcomes = []
read_all machine w (event ∷ events) [] = event ∷ read_all machine (happens machine w event) events []
read_all machine w (event ∷ events) (outcome ∷ outcomes) =
    read machine w event outcome ∷ read_all machine (happens machine w (read machine w event outcome)) events outcomes

-- the second list is the first one resolved, by some outcomes
abbrev pub IsReading : {M : Type 0} → Does M → World M → List Event → List Event → Type 0
IsReading machine w events readings = (outcomes : List Outcome) × (read_all machine w events outcomes ≡ readings)
