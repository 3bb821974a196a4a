-- The client table: what a client does at a call, at each message, and at a retry. It never looks
-- at the contents of a Snapshot, so these can be of any type. Updates go to the head and queries to
-- the tail. A request may be lost, and then the client sends it again.
use Rattle.std.specs.Prelude.{ℕ, ◌+◌, Bool, false, not, Option, None, Some, List, [], ◌∷◌, if◌then◌else◌, is_some, nat_lt, ◌==◌}
use Rattle.zpath.specs.First.{first_that_holds}
use Rattle.zcalls.specs.declared.limits.TheConstants.{MAX_CALL_NUMBER}
use Rattle.zcalls.specs.declared.call.Call.{Call}
use Rattle.zcalls.specs.declared.call.Call.TheVariants as call
use Rattle.zcalls.specs.declared.reply.Reply.{Reply}
use Rattle.zprotocol.specs.declared.message.Message.{Message}
use Rattle.zprotocol.specs.declared.message.Message.TheVariants as message
use Rattle.zprotocol.specs.declared.process.Process.{Process}
use Rattle.zprotocol.specs.declared.process.Process.TheVariants.{Master, Server}
use Rattle.zprotocol.specs.server.View.{PostOf}
use Rattle.zprotocol.specs.declared.client.begin_fault.BeginFault.{BeginFault}
use Rattle.zprotocol.specs.declared.client.begin_fault.BeginFault.TheVariants.{Busy, Exhausted}
use Rattle.zprotocol.specs.client.View.{ClientView}

-- a message to a server, if there is one
abbrev pub to_server : {T : Type 0} → Option ℕ → Message T → List (PostOf T)
to_server None m = []
to_server (Some s) m = (Server s, m) ∷ []

-- a call is sent: an update to the head, a query to the tail
abbrev pub call_posts : {T : Type 0} → Option ℕ → Option ℕ → ℕ → Call → List (PostOf T)
call_posts head tail number (call.Update update) = to_server head (message.Submit number update)
call_posts head tail number (call.Query query) = to_server tail (message.Query number query)

-- send: the outstanding call, if there is one, is sent
abbrev pub outstanding_posts : {T : Type 0} → ClientView → List (PostOf T)
outstanding_posts v = elim v.outstanding [ None ↦ [] | Some waits ↦ call_posts v.head v.tail waits.0 waits.1 ]

-- why a call can't be invoked, by the first test that holds; out of memory isn't part of this
-- definition
unfoldable pub begin_fault : ClientView → Option BeginFault
begin_fault v = first_that_holds ((is_some v.outstanding, Busy) ∷ (not (nat_lt v.number MAX_CALL_NUMBER), Exhausted) ∷ [])

-- invoke a call that isn't refused: it gets the next number, becomes the outstanding one, and is
-- sent
unfoldable pub begin_step : {T : Type 0} → ClientView → Call → ClientView × List (PostOf T)
begin_step v c =
    let w = record v { number = v.number + 1; outstanding = Some (v.number + 1, c) } in
    (w, outstanding_posts w)

-- the view after a message, the messages sent, and the reply returned, with its call's number
abbrev pub ClientResult : Type 0 → Type 0
ClientResult T = ClientView × List (PostOf T) × Option (ℕ × Reply)

-- nothing changes, nothing is sent, and no reply is returned
abbrev pub no_effect : {T : Type 0} → ClientView → ClientResult T
no_effect v = (v, [], None)

-- the outstanding call has this number
abbrev pub is_waiting_for : ClientView → ℕ → Bool
is_waiting_for v number = elim v.outstanding [ None ↦ false | Some waits ↦ waits.0 == number ]

-- Answer from a server to the outstanding call: the call is done, and its reply is returned
unfoldable pub answer_row : {T : Type 0} → ClientView → ℕ → Reply → ClientResult T
answer_row v number reply =
    if is_waiting_for v number then (record v { outstanding = None }, [], Some (number, reply))
    else no_effect v

-- Config from the master, in a later epoch: it replaces the old one, and an outstanding call is
-- sent again
unfoldable pub config_row : {T : Type 0} → ClientView → ℕ → Option ℕ → Option ℕ → ClientResult T
config_row v epoch head tail =
    if nat_lt v.epoch epoch then
    (let w = record v { epoch = epoch; head = head; tail = tail } in
    (w, outstanding_posts w, None))
    else no_effect v

-- the table; any other message is ignored
unfoldable pub client_step : {T : Type 0} → ClientView → Process → Message T → ClientResult T
client_step v (Server s) (message.Answer number reply) = answer_row v number reply
client_step v Master (message.Config epoch head tail) = config_row v epoch head tail
client_step v from other = no_effect v

-- a retry: the outstanding call is sent again; without one, nothing is sent
unfoldable pub retry_posts : {T : Type 0} → ClientView → List (PostOf T)
retry_posts v = outstanding_posts v
