-- The heads of a chain, as the front end uses them. The chain is that of the world, without
-- clients. A call is executed on the machine of a head, and its reply waits there until an entry
-- has gone through the whole chain. Then it is acknowledged. The source of the chain is van Renesse
-- and Schneider, "Chain Replication for Supporting High Throughput and Availability" (OSDI 2004),
-- section 2. There queries are answered by the tail; that they wait at the head for an entry to go
-- through the chain is this project's profile.
use Rattle.std.specs.Prelude.{ℕ, ◌+◌, Bool, ◌&&◌, not, is_none, nat_le, Option, None, Some, List, [], ◌∷◌, ◌++◌, if◌then◌else◌, map, filter}
use Rattle.zcalls.specs.declared.call.Call.{Call}
use Rattle.zcalls.specs.declared.call.Call.TheVariants as call
use Rattle.zcalls.specs.declared.call.Entry.{Entry}
use Rattle.zcalls.specs.declared.call.Query.{Query}
use Rattle.zcalls.specs.declared.call.Update.{Update}
use Rattle.zcalls.specs.declared.reply.Reply.{Reply}
use Rattle.zprotocol.specs.declared.message.Message.TheVariants as message
use Rattle.zprotocol.specs.declared.process.Process.TheVariants.{Server, Client}
use Rattle.zprotocol.specs.declared.world.event.Event.{Event}
use Rattle.zprotocol.specs.server.Machine.{Does}
use Rattle.zprotocol.specs.server.View.{ServerView}
use Rattle.zprotocol.specs.server.Table.{has_room}
use Rattle.zprotocol.specs.master.View.{is_among}
use Rattle.zprotocol.specs.world.Does.{Input, Hear}
use Rattle.zprotocol.specs.world.World.{World, opening_world}
use Rattle.zprotocol.specs.world.Events.{does_in, let_go, happens}
use Rattle.zlinearizability.specs.Cuts.{Stays, cut}

-- A call that a head executed, with the reply of its machine. The place of an update is the number
-- of its entry in the head's log. The place of a query is the number of the last entry before it.
-- The reply waits for the entry with the number `need`.
pub record Note : Type 0 where
  pub server : ℕ
  pub call : Call
  pub reply : Option Reply
  pub place : ℕ
  pub need : ℕ

-- what callers see of the heads: a call begins, and it is acknowledged
pub data Seen : Type 0 where
  Begun : Note → Seen
  Acknowledged : Note → Seen

-- the chain's world, the calls that aren't acknowledged yet, and what callers saw
pub record Heads (M : Type 0) : Type 0 where
  pub world : World M
  pub waiting : List Note
  pub seen : List Seen

-- An update is appended at a server, a query is executed there, or an event of the chain happens: a
-- delivery, a failure or an order. There is no client, so no event of a client is ever enabled.
pub data HeadEvent : Type 0 where
  Append : ℕ → Update → HeadEvent
  Look : ℕ → Query → HeadEvent
  InChain : Event → HeadEvent

-- the machine of a live head: by its own view the server has a machine and no predecessor
abbrev pub head_machine : {M : Type 0} → World M → ℕ → Option M
head_machine w s =
    if w.failed s then None else
    if is_none (w.servers s).pred then (w.servers s).machine else
    None

-- an update at a head is a request of client 0, under the number that its entry gets
abbrev pub update_entry : {M : Type 0} → ServerView M → Update → Entry
update_entry v update = record { client = 0; number = v.last + 1; update = update }

abbrev pub update_input : {M : Type 0} → ServerView M → Update → Input M
update_input v update = Hear (Client 0) (message.Submit (v.last + 1) update)

-- an update with the machine's reply waits for its own entry
abbrev pub update_note : {M : Type 0} → Does M → ℕ → ServerView M → M → Update → Note
update_note does s v m update =
    record {
      server = s;
      call = call.Update update;
      reply = (does.apply m (update_entry v update)).1;
      place = v.last + 1;
      need = v.last + 1;
    }

-- the entry that a query waits for: the next one, whatever that is. Where no update follows, the
-- front end appends an entry that changes nothing
abbrev pub next_number : {M : Type 0} → ServerView M → ℕ
next_number v = v.last + 1

-- a query with the machine's reply
abbrev pub query_note : {M : Type 0} → Does M → ℕ → ServerView M → M → Query → Note
query_note does s v m query =
    record {
      server = s;
      call = call.Query query;
      reply = Some (does.ask m query);
      place = v.last;
      need = next_number v;
    }

-- a call begins, and waits
abbrev pub begun : {M : Type 0} → Note → Heads M → Heads M
begun note h = record h { waiting = h.waiting ++ note ∷ []; seen = h.seen ++ Begun note ∷ [] }

-- an update at a live head with a log number left is noted, and appended to the head's log
abbrev pub append : {M : Type 0} → Does M → Heads M → ℕ → Update → Heads M
append does h s update =
    let v = h.world.servers s in
    elim (head_machine h.world s) [
      | None ↦ h
      | Some m ↦
          if has_room v then
          begun (update_note does s v m update) (record h { world = let_go (does_in does h.world (Server s) (update_input v update)) })
          else h
    ]

-- a query at a live head is noted
abbrev pub look : {M : Type 0} → Does M → Heads M → ℕ → Query → Heads M
look does h s query = elim (head_machine h.world s) [ None ↦ h | Some m ↦ begun (query_note does s (h.world.servers s) m query) h ]

-- what an event does
abbrev pub acts : {M : Type 0} → Does M → Heads M → HeadEvent → Heads M
acts does h (Append s update) = append does h s update
acts does h (Look s query) = look does h s query
acts does h (InChain event) = record h { world = happens does h.world event }

-- the entry of this number was appended to the server's log, and has left Sent
abbrev pub has_left_sent : {M : Type 0} → ServerView M → ℕ → Bool
has_left_sent v n = nat_le n v.last && not (is_among n (map (λ e. e.0) v.sent))

-- a call is acknowledged: its head is alive, and the entry that it waits for has left Sent
abbrev pub is_acknowledged : {M : Type 0} → World M → Note → Bool
is_acknowledged w note = not (w.failed note.server) && has_left_sent (w.servers note.server) note.need

-- all calls that can be acknowledged are
abbrev pub acknowledge : {M : Type 0} → Heads M → Heads M
acknowledge h =
    record h {
      waiting = filter (λ note. not (is_acknowledged h.world note)) h.waiting;
      seen = h.seen ++ map Acknowledged (filter (is_acknowledged h.world) h.waiting);
    }

-- channels lose their ends, an event happens, and calls are acknowledged
abbrev pub next : {M : Type 0} → Does M → Heads M → Stays × HeadEvent → Heads M
next does h step = acknowledge (acts does (record h { world = cut step.0 h.world }) step.1)

-- a run
abbrev pub run_heads : {M : Type 0} → Does M → Heads M → List (Stays × HeadEvent) → Heads M
run_heads does h [] = h
run_heads does h (step ∷ more) = run_heads does (next does h step) more

-- before the first event: the initial world of this many servers, without clients
abbrev pub opening_heads : {M : Type 0} → Does M → ℕ → Heads M
opening_heads does servers = record { world = opening_world does servers 0; waiting = []; seen = [] }
