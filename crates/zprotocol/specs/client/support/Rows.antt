-- Calls, a reply and clients for the worked examples of the client table.
use Rattle.std.specs.Prelude.{◌≡◌, ℕ, Option, None, Some, List, []}
use Rattle.zcalls.specs.declared.call.Call.{Call}
use Rattle.zcalls.specs.declared.call.Call.TheVariants as call
use Rattle.zcalls.specs.declared.call.Expected.TheVariants.{Any}
use Rattle.zcalls.specs.declared.call.Update.{Update}
use Rattle.zcalls.specs.declared.call.Update.TheVariants.{Delete}
use Rattle.zcalls.specs.declared.call.Query.{Query}
use Rattle.zcalls.specs.declared.call.Query.TheVariants.{Exists}
use Rattle.zcalls.specs.declared.reply.Reply.TheVariants.{Deleted}
use Rattle.zprotocol.specs.declared.message.Message.TheVariants as message
use Rattle.zprotocol.specs.declared.process.Process.{Process}
use Rattle.zprotocol.specs.declared.process.Process.TheVariants.{Master, Server}
use Rattle.zprotocol.specs.server.View.{Transfer, MessageOf, Post}
use Rattle.zprotocol.specs.client.View.{ClientView}
use Rattle.zprotocol.specs.client.Table.{ClientResult, begin_step, client_step, retry_posts}

-- an update, and a query
abbrev pub update : Update
update = Delete (record { path = []; version = Any })

abbrev pub query : Query
query = Exists []

-- the same, as calls
abbrev pub update_call : Call
update_call = call.Update update

abbrev pub query_call : Call
query_call = call.Query query

-- a client that has begun this many calls and waits for this one; it knows server 1 as the head and
-- server 3 as the tail, in epoch 4
abbrev pub client : ℕ → Option (ℕ × Call) → ClientView
client number outstanding = record { number = number; outstanding = outstanding; epoch = 4; head = Some 1; tail = Some 3 }

-- a client of two servers in its initial state, and when it waits for its first call; and a number
-- that is no client
abbrev pub newcomer : ClientView
newcomer = record { number = 0; outstanding = None; epoch = 0; head = Some 1; tail = Some 2 }

abbrev pub beginner : ClientView
beginner = record newcomer { number = 1; outstanding = Some (1, update_call) }

abbrev pub outsider : ClientView
outsider = record { number = 0; outstanding = None; epoch = 0; head = None; tail = None }

-- a client that waits for nothing, one that waits for an update, and one that waits for a query
abbrev pub idle : ClientView
idle = client 7 None

abbrev pub updating : ClientView
updating = client 7 (Some (7, update_call))

abbrev pub asking : ClientView
asking = client 7 (Some (7, query_call))

-- the same, with its eighth call
abbrev pub eighth : Call → ClientView
eighth c = client 8 (Some (8, c))

-- a client that has begun this many calls
abbrev pub with_calls : ℕ → ClientView → ClientView
with_calls number v = record v { number = number }

-- a client that knows of no head
abbrev pub headless : ClientView → ClientView
headless v = record v { head = None }

-- a client that has received this head and this tail in epoch 5, and one that has received that
-- there is no chain
abbrev pub reported : ℕ → ℕ → ClientView → ClientView
reported head tail v = record v { epoch = 5; head = Some head; tail = Some tail }

abbrev pub reported_of_none : ClientView → ClientView
reported_of_none v = record v { epoch = 5; head = None; tail = None }

-- a client's update and its query, on their way to a server
abbrev pub submit_to : ℕ → ℕ → Post ℕ
submit_to s number = (Server s, message.Submit number update)

abbrev pub query_to : ℕ → ℕ → Post ℕ
query_to s number = (Server s, message.Query number query)

-- what a client does with a message, between servers whose machine is a number
abbrev pub after : ClientView → Process → MessageOf ℕ → ClientResult (Transfer ℕ)
after v from m = client_step v from m

-- the message changes nothing, sends nothing, and returns no reply
abbrev pub Ignores : ClientView → Process → MessageOf ℕ → Type 0
Ignores v from m = after v from m ≡ (v, [], None)

-- what a client does when a call begins, and what it sends at a retry
abbrev pub after_call : ClientView → Call → ClientView × List (Post ℕ)
after_call v c = begin_step v c

abbrev pub after_retry : ClientView → List (Post ℕ)
after_retry v = retry_posts v

-- what it does with the answer to call 7, and with the master's Config of epoch 5: with this head
-- and this tail, or without a chain
abbrev pub after_answer : ClientView → ℕ → ClientResult (Transfer ℕ)
after_answer v s = after v (Server s) (message.Answer 7 Deleted)

abbrev pub hears : ClientView → ℕ → ℕ → ClientResult (Transfer ℕ)
hears v head tail = after v Master (message.Config 5 (Some head) (Some tail))

abbrev pub hears_of_none : ClientView → ClientResult (Transfer ℕ)
hears_of_none v = after v Master (message.Config 5 None None)
