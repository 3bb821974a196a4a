-- What one process does, as the process itself records it: its steps (deeds), one for each event of
-- its trace. Each has the message that was received, the messages that were sent, and what the
-- caller saw. Through its steps a process follows its table. Timestamps are Lamport timestamps.
use Rattle.std.specs.Prelude.{◌≡◌, ◌<◌, ℕ, ◌+◌, Bool, true, false, not, ◌&&◌, nat_lt, max, is_some, if◌then◌else◌, List, [], ◌∷◌, ◌++◌, Option, None, Some, map}
use Rattle.zprotocol.specs.declared.process.Process.{Process}
use Rattle.zprotocol.specs.declared.process.Process.TheVariants.{Master, Server, Client}
use Rattle.zprotocol.specs.Places.{is_server}
use Rattle.zprotocol.specs.server.Machine.{Does}
use Rattle.zprotocol.specs.server.Memory.{may_be_unheard, may_stop}
use Rattle.zprotocol.specs.server.View.{MessageOf, Post}
use Rattle.zprotocol.specs.server.Table.{is_retirement}
use Rattle.zprotocol.specs.declared.master.order.Order.{Order}
use Rattle.zprotocol.specs.master.Table.{order_fault}
use Rattle.zprotocol.specs.declared.world.outcome.Outcome.TheVariants.{Acted, Stopped, Unheard}
use Rattle.zprotocol.specs.world.History.{History}
use Rattle.zprotocol.specs.world.Links.{is_same, messages_to}
use Rattle.zprotocol.specs.world.World.{World}
use Rattle.zprotocol.specs.world.Does as given
use Rattle.zprotocol.specs.world.Does.{Standing, AtMaster, AtServer, Out, Input, Hear, Obey, Stop, Effect, accepts, does, idle_effect}
use Rattle.zprotocol.specs.world.Events.{standing_of}
use Rattle.zprotocol.specs.declared.traces.trace.Act.{Act}
use Rattle.zprotocol.specs.declared.traces.trace.Act.TheVariants.{Took, Began, Retried, Ordered, Left, Halted}
use Rattle.zprotocol.specs.declared.traces.trace.TraceEvent.{TraceEvent}

-- a message with the timestamp of the event that sent it
abbrev pub Stamped : Type 0 → Type 0
Stamped M = ℕ × MessageOf M

-- the process takes part in a world: it is the master, one of the servers and has not failed, or
-- one of the clients
abbrev pub takes_part : {M : Type 0} → World M → Process → Bool
takes_part w Master = true
takes_part w (Server s) = is_server s && not (w.failed s)
takes_part w (Client c) = nat_lt c w.master.clients

-- the standing of a process in a world
abbrev pub standing_in : {M : Type 0} → World M → Process → Standing M
standing_in w p = if takes_part w p then standing_of w p else Out

-- a server receives the order to leave
abbrev pub is_to_leave : {M : Type 0} → Process → Process → MessageOf M → Bool
is_to_leave (Server s) from m = is_retirement from m
is_to_leave p from m = false

-- a server may drop a query when out of memory, or stop at another message
abbrev pub may_drop : {M : Type 0} → Does M → Process → Standing M → Process → MessageOf M → Bool
may_drop machine (Server s) (AtServer v) from m = may_be_unheard machine v from m
may_drop machine p standing from m = false

abbrev pub may_stop_at : {M : Type 0} → Does M → Process → Standing M → Process → MessageOf M → Bool
may_stop_at machine (Server s) (AtServer v) from m = may_stop machine v from m
may_stop_at machine p standing from m = false

-- the master refuses an order
abbrev pub refuses : {M : Type 0} → Process → Standing M → Order → Bool
refuses Master (AtMaster v) order = is_some (order_fault v order)
refuses p standing order = false

-- what a process does with an input, if it accepts it
abbrev pub done : {M : Type 0} → Does M → Process → Standing M → Input M → Option (Effect M)
done machine p standing input = if accepts p input standing then Some (does machine p input standing) else None

-- What a process does at an event of its trace, with the message that it received, if any; none
-- where that can't be an event of its trace. It acts on a message, unless that is the order to
-- leave. It drops a query, or stops at a message by which it would grow. It receives the order to
-- leave, or is halted. The master refuses an order, or obeys it. A client invokes a call, or sends
-- its outstanding one again
abbrev pub row_of : {M : Type 0} → Does M → Process → Standing M → Act → Option (Stamped M) → Option (Effect M)
row_of machine p standing (Took from Acted) (Some m) = if is_to_leave p from m.1 then None else done machine p standing (Hear from m.1)
row_of machine p standing (Took from Unheard) (Some m) = if may_drop machine p standing from m.1 then Some (idle_effect standing) else None
row_of machine p standing (Took from Stopped) (Some m) = if may_stop_at machine p standing from m.1 then done machine p standing Stop else None
row_of machine p standing Left (Some m) = if is_to_leave p Master m.1 then done machine p standing (Hear Master m.1) else None
row_of machine p standing Halted None = done machine p standing Stop
row_of machine p standing (Ordered order) None = if refuses p standing order then Some (idle_effect standing) else done machine p standing (Obey order)
row_of machine p standing (Began call) None = done machine p standing (given.Begin call)
row_of machine p standing Retried None = done machine p standing given.Retry
row_of machine p standing act took = None

-- a row: a process, its standing, the event, and the message that it received, if any; then its
-- standing afterwards, what it sent, and what its caller saw
abbrev pub Row : {M : Type 0} → Does M → Process → Standing M → Act → Option (Stamped M) → Standing M → List (Post M) → History → Type 0
Row machine p standing act took left posts reported = row_of machine p standing act took ≡ Some (record { left = left; posts = posts; reported = reported })

-- a step of a process: an event of its trace, the message that was received, if any, its standing
-- afterwards, what it sent and what the caller saw
pub record Deed (M : Type 0) : Type 0 where
  pub event : TraceEvent
  pub took : Option (Stamped M)
  pub left : Standing M
  pub posts : List (Post M)
  pub reported : History

-- the timestamp of a message that was received; 0 if none was
abbrev pub stamp_of : {M : Type 0} → Option (Stamped M) → ℕ
stamp_of None = 0
stamp_of (Some m) = m.0

-- an event's timestamp is one more than the greater of its process's last one and the message's; a
-- client may have received a later one in between
abbrev pub IsStamped : Process → ℕ → ℕ → ℕ → Type 0
IsStamped (Client c) last message stamp = max last message < stamp
IsStamped p last message stamp = stamp ≡ max last message + 1

-- the process follows its table through the steps, from its standing and its last timestamp
abbrev pub GoesBy : {M : Type 0} → Does M → Process → Standing M → ℕ → List (Deed M) → Type 0
GoesBy machine p standing last [] = Unit {0}
GoesBy machine p standing last (d ∷ deeds) =
    Row machine p standing d.event.act d.took d.left d.posts d.reported
    × IsStamped p last (stamp_of d.took) d.event.stamp
    × GoesBy machine p d.left d.event.stamp deeds

-- the trace of the steps
abbrev pub trace_by : {M : Type 0} → List (Deed M) → List TraceEvent
trace_by deeds = map (λ d. d.event) deeds

-- what an event received from the channel of that process
abbrev pub taken_from : {M : Type 0} → Process → Act → Option (Stamped M) → List (Stamped M)
taken_from from (Took other outcome) (Some m) = if is_same from other then m ∷ [] else []
taken_from from Left (Some m) = if is_same from Master then m ∷ [] else []
taken_from from act took = []

-- what the steps received from the channel of that process, in order
abbrev pub takes : {M : Type 0} → Process → List (Deed M) → List (Stamped M)
takes from [] = []
takes from (d ∷ deeds) = taken_from from d.event.act d.took ++ takes from deeds

-- messages with the timestamp of the event that sent them
abbrev pub stamped : {M : Type 0} → ℕ → List (MessageOf M) → List (Stamped M)
stamped stamp messages = map (λ m. (stamp, m)) messages

-- what the steps sent on the channel to that process, in order
abbrev pub puts : {M : Type 0} → Process → List (Deed M) → List (Stamped M)
puts to [] = []
puts to (d ∷ deeds) = stamped d.event.stamp (messages_to to d.posts) ++ puts to deeds

-- what the caller saw
abbrev pub reported_by : {M : Type 0} → List (Deed M) → History
reported_by [] = []
reported_by (d ∷ deeds) = d.reported ++ reported_by deeds

-- the process's standing after the steps, and its last timestamp then
abbrev pub left_by : {M : Type 0} → Standing M → List (Deed M) → Standing M
left_by standing [] = standing
left_by standing (d ∷ deeds) = left_by d.left deeds

abbrev pub last_by : {M : Type 0} → ℕ → List (Deed M) → ℕ
last_by last [] = last
last_by last (d ∷ deeds) = last_by d.event.stamp deeds
