-- A service that only counts its updates, and a machine for it, for the worked examples. They stand
-- in for the plain tree and its machine, and compute. The reply to an update is the name that it
-- made: the number of updates before it. The reply to a query is the number of updates so far.
use Rattle.std.specs.Prelude.{ℕ, ◌+◌, ◌==◌, nat_lt, if◌then◌else◌, List, [], ◌∷◌, Option, None, Some}
use Rattle.zcalls.specs.declared.call.Lifetime.TheVariants.{Persistent}
use Rattle.zcalls.specs.Part.{sequential}
use Rattle.zcalls.specs.declared.call.Entry.{Entry}
use Rattle.zcalls.specs.declared.call.Update as update
use Rattle.zcalls.specs.declared.call.Query.TheVariants as query
use Rattle.zcalls.specs.declared.call.Call.{Call}
use Rattle.zcalls.specs.declared.call.Call.TheVariants.{Update, Query}
use Rattle.zcalls.specs.declared.reply.Reply.{Reply}
use Rattle.zcalls.specs.declared.reply.Reply.TheVariants.{Created, Exists}
use Rattle.zprotocol.specs.server.Machine.{Does}
use Rattle.zprotocol.specs.world.LegalOrder.{Service}

-- the answer to an update that comes after this many
abbrev pub name_reply : ℕ → Reply
name_reply count = Created ((count ∷ []) ∷ [])

-- the answer to a query after this many updates
abbrev pub count_reply : ℕ → Reply
count_reply count =
    Exists (record { czxid = 0; mzxid = 0; pzxid = 0; ctime = 0; mtime = 0; version = 0; cversion = 0; aversion = 0; owner = 0; length = 0; children = count })

-- an update counts, and a query doesn't
abbrev pub count_step : ℕ → ℕ → Call → ℕ × Reply
count_step count client (Update update) = (count + 1, name_reply count)
count_step count client (Query query) = (count, count_reply count)

-- the service
abbrev pub counter : Service ℕ
counter = record { opening = 0; step = count_step }

-- an update and a query for the examples
abbrev pub create_update : update.Update
create_update = update.TheVariants.Create (record { path = (110 ∷ []) ∷ []; kind = sequential Persistent; bytes = [] })

abbrev pub create : Call
create = Update create_update

abbrev pub exists : Call
exists = Query (query.Exists [])

-- a call that acted: its client, the client's number of it, and the reply
pub record Counted : Type 0 where
  pub client : ℕ
  pub number : ℕ
  pub reply : Reply

-- the machine's state: how many updates acted, and the calls that did, the latest first
pub record Counting : Type 0 where
  pub count : ℕ
  pub calls : List Counted

-- the latest of a client's calls
abbrev pub latest : ℕ → List Counted → Option Counted
latest client [] = None
latest client (call ∷ calls) = if call.client == client then Some call else latest client calls

-- an entry that acts: it counts, and its reply is cached
abbrev pub with_update : Counting → Entry → Counting × Option Reply
with_update m entry =
    (record { count = m.count + 1; calls = record { client = entry.client; number = entry.number; reply = name_reply m.count } ∷ m.calls }, Some (name_reply m.count))

-- an entry after the latest call of its client: a greater number acts, the same one gets the cached
-- reply, a lesser one nothing
abbrev pub with_update_after : Counting → Entry → Option Counted → Counting × Option Reply
with_update_after m entry None = with_update m entry
with_update_after m entry (Some call) =
    if nat_lt call.number entry.number then with_update m entry else (m, if call.number == entry.number then Some call.reply else None)

-- the machine
abbrev pub counting_machine : Does Counting
counting_machine =
    record {
      start = record { count = 0; calls = [] };
      apply = λ m entry. with_update_after m entry (latest entry.client m.calls);
      ask = λ m query. count_reply m.count;
    }
