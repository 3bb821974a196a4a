-- Worked traces: one server and one client, over a machine that counts its entries.
use Rattle.std.specs.Prelude.{◌≡◌, ℕ, Bool, false, Option, None, Some, List, [], ◌∷◌, ◌++◌}
use Rattle.std.specs.List.{list_any}
use Rattle.zcalls.specs.declared.call.Call.{Call}
use Rattle.zcalls.specs.declared.call.Call.TheVariants as call
use Rattle.zprotocol.specs.declared.message.Message.TheVariants as message
use Rattle.zprotocol.specs.declared.process.Process.{Process}
use Rattle.zprotocol.specs.declared.process.Process.TheVariants.{Master, Server, Client}
use Rattle.zprotocol.specs.server.View.{ServerView, MessageOf}
use Rattle.zprotocol.specs.server.support.Rows.{counting_machine, number_reply, update, query}
use Rattle.zprotocol.specs.client.View.{ClientView}
use Rattle.zprotocol.specs.declared.world.history.CallEvent.TheVariants as call_event
use Rattle.zprotocol.specs.declared.world.outcome.Outcome.{Outcome}
use Rattle.zprotocol.specs.declared.world.outcome.Outcome.TheVariants.{Acted}
use Rattle.zprotocol.specs.world.History.{History}
use Rattle.zprotocol.specs.world.World.{World, opening_world}
use Rattle.zprotocol.specs.world.Events.{run}
use Rattle.zprotocol.specs.declared.traces.trace.Act.{Act}
use Rattle.zprotocol.specs.declared.master.order.Order.TheVariants.{Join, Retire}
use Rattle.zprotocol.specs.declared.traces.trace.Act.TheVariants.{Took, Began, Retried, Ordered, Left, Halted}
use Rattle.zprotocol.specs.declared.traces.trace.TraceEvent.{TraceEvent}
use Rattle.zprotocol.specs.declared.traces.trace.Trace.{Trace}
use Rattle.zprotocol.specs.declared.traces.trace.ClientTrace.{ClientTrace}
use Rattle.zprotocol.specs.declared.traces.trace.Traces.{Traces}
use Rattle.zprotocol.specs.traces.Traces.{Step, events_of, at_process, are_in_place}
use Rattle.zprotocol.specs.traces.Deeds.{Deed, GoesBy, Row, Stamped}
use Rattle.zprotocol.specs.world.Does.{Standing, AtServer, AtClient, Out, last_post}

-- the processes, the two calls, and the initial state
abbrev pub s1 : Process
s1 = Server 1

abbrev pub c0 : Process
c0 = Client 0

abbrev pub write : Call
write = call.Update update

abbrev pub read : Call
read = call.Query query

abbrev pub opening : World ℕ
opening = opening_world counting_machine 1 1

-- an event of a trace, and with its process
abbrev pub event_at : ℕ → Act → TraceEvent
event_at stamp act = record { stamp = stamp; act = act }

abbrev pub step_of : Process → ℕ → Act → Step
step_of process stamp act = record { process = process; event = event_at stamp act }

-- the client invokes a call, with the first timestamp, and the server receives what the client
-- sent, with this outcome
abbrev pub begun : Call → Step
begun call = step_of c0 1 (Began call)

abbrev pub s1_takes : ℕ → Outcome → Step
s1_takes stamp outcome = step_of s1 stamp (Took c0 outcome)

-- events whose act doesn't matter
abbrev pub tick : ℕ → TraceEvent
tick stamp = event_at stamp (Took Master Acted)

abbrev pub tick_of : Process → ℕ → Step
tick_of process stamp = step_of process stamp (Took Master Acted)

-- the server and the client have an event each, at one timestamp
abbrev pub both_at_1 : Process → List TraceEvent
both_at_1 = at_process s1 (tick 1 ∷ []) (at_process c0 (tick 1 ∷ []) (λ p. []))

-- a write and a read, each invoked, executed and answered
abbrev pub written_and_read : List Step
written_and_read =
    step_of c0 1 (Began write)
    ∷ step_of s1 2 (Took c0 Acted)
    ∷ step_of c0 3 (Took s1 Acted)
    ∷ step_of c0 4 (Began read)
    ∷ step_of s1 5 (Took c0 Acted)
    ∷ step_of c0 6 (Took s1 Acted)
    ∷ []

-- over three servers: the second is halted when the first has received a write, and the first while
-- the chain is repaired. A fourth joins, and the client receives the new chain and asks again
abbrev pub mended : List Step
mended =
    step_of c0 1 (Began write)
    ∷ step_of s1 2 (Took c0 Acted)
    ∷ step_of (Server 2) 3 Halted
    ∷ step_of Master 4 (Took (Server 2) Acted)
    ∷ step_of (Server 3) 5 (Took Master Acted)
    ∷ step_of s1 6 Halted
    ∷ step_of Master 7 (Took s1 Acted)
    ∷ step_of Master 8 (Took (Server 3) Acted)
    ∷ step_of Master 9 (Ordered (Join 4))
    ∷ step_of c0 10 (Took Master Acted)
    ∷ step_of c0 11 Retried
    ∷ []

-- over three servers: the client invokes a write, the first is ordered to leave and leaves, and the
-- client receives the new head and asks that one
abbrev pub retirement : List Step
retirement =
    step_of c0 1 (Began write)
    ∷ step_of Master 2 (Ordered (Retire 1))
    ∷ step_of s1 3 Left
    ∷ step_of Master 4 (Took s1 Acted)
    ∷ step_of (Server 2) 5 (Took Master Acted)
    ∷ step_of c0 6 (Took Master Acted)
    ∷ step_of (Server 2) 7 (Took c0 Acted)
    ∷ []

-- what the caller sees of them
abbrev pub seen : History
seen =
    call_event.Begin 0 1 write
    ∷ call_event.Answer 0 1 (number_reply 1)
    ∷ call_event.Begin 0 2 read
    ∷ call_event.Answer 0 2 (number_reply 1)
    ∷ []

-- the same of three servers
abbrev pub opening_of_three : World ℕ
opening_of_three = opening_world counting_machine 3 1

-- the steps are allowed, from either initial state
abbrev pub runs : List Step → Bool
runs steps = are_in_place counting_machine opening steps

abbrev pub runs_over_three : List Step → Bool
runs_over_three steps = are_in_place counting_machine opening_of_three steps

-- so are these of three servers, and one step more
abbrev pub goes_on : List Step → Step → Bool
goes_on steps step = runs_over_three (steps ++ step ∷ [])

-- the world after steps
abbrev pub after_steps : List Step → World ℕ
after_steps steps = run counting_machine opening (events_of steps)

-- the client where it waits for nothing and for its write, and the server before and after it
abbrev pub idle_client : ℕ → ClientView
idle_client number = record { number = number; outstanding = None; epoch = 0; head = Some 1; tail = Some 1 }

abbrev pub waiting_client : ClientView
waiting_client = record (idle_client 1) { outstanding = Some (1, write) }

abbrev pub server_with : ℕ → ServerView ℕ
server_with entries = record { machine = Some entries; last = entries; sent = []; pred = None; succ = None }

-- a server that has a successor now
abbrev pub old_tail : ServerView ℕ
old_tail = record (server_with 0) { succ = Some (2, 0) }

-- the server's standing in the initial state
abbrev pub at_opening : Standing ℕ
at_opening = AtServer (server_with 0)

-- rows of its table: its standing stays the same and it sends nothing, or it ends with its failure
-- notice
abbrev pub Stays : Standing ℕ → Act → Option (Stamped ℕ) → Type 0
Stays standing act took = Row counting_machine s1 standing act took standing [] []

abbrev pub Ends : Standing ℕ → Act → Option (Stamped ℕ) → Type 0
Ends standing act took = Row counting_machine s1 standing act took Out last_post []

-- a process follows its table through steps
abbrev pub GoesThrough : Process → Standing ℕ → ℕ → List (Deed ℕ) → Type 0
GoesThrough process standing last deeds = GoesBy counting_machine process standing last deeds

-- the order to leave, the request and the answer, and a query
abbrev pub order : MessageOf ℕ
order = message.Retire

abbrev pub request : MessageOf ℕ
request = message.Submit 1 update

abbrev pub answer : MessageOf ℕ
answer = message.Answer 1 (number_reply 1)

abbrev pub asked : MessageOf ℕ
asked = message.Query 1 query

-- the trace of one of the servers is cut, or of one of the clients; or no trace is
abbrev pub is_server_cut : Traces → Bool
is_server_cut t = list_any (λ (trace : Trace). trace.is_cut) t.servers.items

abbrev pub is_client_cut : Traces → Bool
is_client_cut t = list_any (λ (client : ClientTrace). client.trace.is_cut) t.clients.items

abbrev pub AreWhole : Traces → Type 0
AreWhole t = (t.master.is_cut ≡ false) × (is_server_cut t ≡ false) × (is_client_cut t ≡ false)

-- what the client and the server do at the write
abbrev pub client_deeds : List (Deed ℕ)
client_deeds =
    record {
      event = event_at 1 (Began write);
      took = None;
      left = AtClient waiting_client;
      posts = (s1, request) ∷ [];
      reported = call_event.Begin 0 1 write ∷ [];
    }
    ∷ record {
      event = event_at 3 (Took s1 Acted);
      took = Some (2, answer);
      left = AtClient (idle_client 1);
      posts = [];
      reported = call_event.Answer 0 1 (number_reply 1) ∷ [];
    }
    ∷ []

abbrev pub server_deeds : List (Deed ℕ)
server_deeds =
    record {
      event = event_at 2 (Took c0 Acted);
      took = Some (1, request);
      left = AtServer (server_with 1);
      posts = (c0, answer) ∷ [];
      reported = [];
    }
    ∷ []
