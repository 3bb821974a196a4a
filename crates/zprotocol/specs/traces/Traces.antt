-- Traces as events of the world: the merge of all traces by timestamps, and when its events are
-- allowed.
use Rattle.std.specs.Prelude.{if◌then◌else◌, ◌≡◌, ℕ, zero, suc, Bool, true, false, ◌&&◌, ◌||◌, ◌==◌, nat_lt, List, [], ◌∷◌, ◌++◌, Option, None, Some, map, filter, length, get_or}
use Rattle.zprotocol.specs.declared.process.Process.{Process}
use Rattle.zprotocol.specs.declared.process.Process.TheVariants.{Master, Server, Client}
use Rattle.zprotocol.specs.server.Machine.{Does}
use Rattle.zprotocol.specs.Places.{place_of}
use Rattle.zprotocol.specs.declared.world.event.Event.{Event}
use Rattle.zprotocol.specs.declared.world.event.Event.TheVariants as event
use Rattle.zprotocol.specs.declared.world.history.CallEvent.{CallEvent}
use Rattle.zprotocol.specs.declared.world.history.CallEvent.TheVariants as call_event
use Rattle.zprotocol.specs.declared.world.outcome.Outcome.TheVariants.{Acted, Stopped, Unheard}
use Rattle.zprotocol.specs.world.History.{History}
use Rattle.zprotocol.specs.world.Links.{is_same}
use Rattle.zprotocol.specs.world.World.{World}
use Rattle.zprotocol.specs.world.Events.{is_enabled, happens}
use Rattle.zprotocol.specs.declared.traces.trace.Act.{Act}
use Rattle.zprotocol.specs.declared.traces.trace.Act.TheVariants.{Took, Began, Retried, Ordered, Left, Halted}
use Rattle.zprotocol.specs.declared.traces.trace.TraceEvent.{TraceEvent}
use Rattle.zprotocol.specs.declared.traces.trace.Trace.{Trace}
use Rattle.zprotocol.specs.declared.traces.trace.ClientTrace.{ClientTrace}
use Rattle.zprotocol.specs.declared.traces.trace.Traces.{Traces}

-- the events of a process; a process that has no trace has none
abbrev pub trace_of : Traces → Process → List TraceEvent
trace_of t Master = t.master.events.items
trace_of t (Server zero) = []
trace_of t (Server (suc place)) = get_or (map (λ (trace : Trace). trace.events.items) t.servers.items) place []
trace_of t (Client c) = get_or (map (λ (client : ClientTrace). client.trace.events.items) t.clients.items) c []

-- what a client's caller saw
abbrev pub record_of : Traces → ℕ → History
record_of t c = get_or (map (λ (client : ClientTrace). client.record.items) t.clients.items) c []

-- how many clients there are
abbrev pub client_count : Traces → ℕ
client_count t = length t.clients.items

-- the event of the world that a process's act represents; an act of another kind of process
-- represents none
abbrev pub event_of : Process → Act → Option Event
event_of p (Took from Acted) = Some (event.Take from p)
event_of (Server s) (Took from Unheard) = Some (event.Ignore from (Server s))
event_of (Server s) (Took from Stopped) = Some (event.Fail s)
event_of (Server s) Left = Some (event.Take Master (Server s))
event_of (Server s) Halted = Some (event.Fail s)
event_of Master (Ordered order) = Some (event.Order order)
event_of (Client c) (Began call) = Some (event.Begin c call)
event_of (Client c) Retried = Some (event.Retry c)
event_of p act = None

-- an event of a trace, with its process
pub record Step : Type 0 where
  pub process : Process
  pub event : TraceEvent

-- the order of steps: by timestamp, and at one timestamp by process
abbrev pub comes_before : Step → Step → Bool
comes_before a b =
    nat_lt a.event.stamp b.event.stamp
    || (a.event.stamp == b.event.stamp && nat_lt (place_of a.process) (place_of b.process))

-- the traces with one of them replaced
abbrev pub at_process : {A : Type 0} → Process → A → (Process → A) → Process → A
at_process p x family q = if is_same q p then x else family q

-- The steps are the first events of all traces, by timestamp and process, and `left` is left of the
-- traces. The first step begins its trace, and no trace begins with an event that comes before it.
-- The other steps are the first events of what is left then
abbrev pub Merges : (Process → List TraceEvent) → List Step → (Process → List TraceEvent) → Type 0
Merges traces [] left = (p : Process) → traces p ≡ left p
Merges traces (step ∷ steps) left =
    (more : List TraceEvent) × (traces step.process ≡ step.event ∷ more)
    × ((q : Process) (e : TraceEvent) (others : List TraceEvent) → traces q ≡ e ∷ others
    → comes_before (record { process = q; event = e }) step ≡ false)
    × Merges (at_process step.process more traces) steps left

-- the steps are all events of the traces, by timestamp and process
abbrev pub IsMerge : Traces → List Step → Type 0
IsMerge t steps = Merges (trace_of t) steps (λ p. [])

-- the steps are the first of them
abbrev pub BeginsMerge : Traces → List Step → Type 0
BeginsMerge t steps = (left : Process → List TraceEvent) × Merges (trace_of t) steps left

-- the timestamps of a trace rise, from above this one on
abbrev pub stamps_rise_from : ℕ → List TraceEvent → Bool
stamps_rise_from last [] = true
stamps_rise_from last (e ∷ more) = nat_lt last e.stamp && stamps_rise_from e.stamp more

-- the timestamps of a trace rise
abbrev pub stamps_rise : List TraceEvent → Bool
stamps_rise [] = true
stamps_rise (e ∷ more) = stamps_rise_from e.stamp more

-- an event is allowed if it is enabled, or is an order, which the master may refuse
abbrev pub is_in_place : {M : Type 0} → World M → Event → Bool
is_in_place w (event.Order order) = true
is_in_place w other = is_enabled w other

-- a step is allowed: it represents an event, and that event is allowed
abbrev pub is_step_in_place : {M : Type 0} → World M → Option Event → Bool
is_step_in_place w None = false
is_step_in_place w (Some event) = is_in_place w event

-- what a step does
abbrev pub step_happens : {M : Type 0} → Does M → World M → Option Event → World M
step_happens machine w None = w
step_happens machine w (Some event) = happens machine w event

-- each step is allowed in the run of those before it
abbrev pub are_in_place : {M : Type 0} → Does M → World M → List Step → Bool
are_in_place machine w [] = true
are_in_place machine w (step ∷ steps) =
    is_step_in_place w (event_of step.process step.event.act)
    && are_in_place machine (step_happens machine w (event_of step.process step.event.act)) steps

-- the events that steps represent
abbrev pub event_list : Option Event → List Event
event_list None = []
event_list (Some event) = event ∷ []

abbrev pub events_of : List Step → List Event
events_of [] = []
events_of (step ∷ steps) = event_list (event_of step.process step.event.act) ++ events_of steps

-- whose event of a history it is
abbrev pub client_of : CallEvent → ℕ
client_of (call_event.Begin client number call) = client
client_of (call_event.Answer client number reply) = client

-- what a history holds of a client
abbrev pub reported_of : ℕ → History → History
reported_of c history = filter (λ e. client_of e == c) history

-- the history holds of each client what its record holds
abbrev pub AgreesWithRecords : Traces → History → Type 0
AgreesWithRecords t history = (c : ℕ) → nat_lt c (client_count t) ≡ true → reported_of c history ≡ record_of t c
