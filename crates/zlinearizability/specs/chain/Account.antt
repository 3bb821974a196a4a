-- A run of the log world with an account beside it: the committed log, and the items. The committed
-- log is that of the last server that received a message as a tail. This world preserves what
-- failed servers held (Keeping.antt of the world's model), since the facts of the chain are about
-- it.
use Rattle.std.specs.Prelude.{ℕ, if◌then◌else◌, None, Some, List, [], ◌∷◌, ◌++◌, length, is_none}
use Rattle.zcalls.specs.declared.call.Call.TheVariants as call
use Rattle.zcalls.specs.declared.call.Entry.{Entry}
use Rattle.zcalls.specs.declared.call.Query.{Query}
use Rattle.zcalls.specs.Cached.{Plain}
use Rattle.zcalls.specs.Acts.{after_log}
use Rattle.zprotocol.specs.declared.message.Message.TheVariants as message
use Rattle.zprotocol.specs.declared.process.Process.TheVariants.{Server, Client}
use Rattle.zprotocol.specs.server.View.{ServerView}
use Rattle.zprotocol.specs.declared.world.event.Event.{Event}
use Rattle.zprotocol.specs.declared.world.event.Event.TheVariants.{Take}
use Rattle.zprotocol.specs.world.World.{opening_world}
use Rattle.zprotocol.specs.world.Events.{is_enabled, acts}
use Rattle.zlinearizability.specs.legal.Items.{Item, new_items}
use Rattle.zlinearizability.specs.chain.Flow.{log_machine, LogWorld, LogMessage, Log}

-- the log of a server without successor
abbrev pub tail_log : ServerView (List Entry) → Log
tail_log v = if is_none v.succ then v.machine else None

-- the committed log after a server received a message: its own where it is a tail now
abbrev pub committed_after : Log → List Entry → List Entry
committed_after None old = old
committed_after (Some log) old = log

-- after an event that led to this world
abbrev pub committed_by : LogWorld → Event → List Entry → List Entry
committed_by w (Take from (Server s)) old = committed_after (tail_log (w.servers s)) old
committed_by w event old = old

-- a query that a tail receives, with its answer
abbrev pub query_items : {P : Type 0} → Plain P → ℕ → Log → ℕ → ℕ → Query → List Item
query_items plain time None c number query = []
query_items plain time (Some log) c number query =
    record {
      operation = record { client = c; number = number; call = call.Query query };
      reply = plain.ask (after_log plain log).plain query;
      time = time;
    } ∷ []

-- the same by the front of the channel
abbrev pub query_items_of_front : {P : Type 0} → Plain P → ℕ → Log → ℕ → List LogMessage → List Item
query_items_of_front plain time log c [] = []
query_items_of_front plain time log c (message.Query number query ∷ more) = query_items plain time log c number query
query_items_of_front plain time log c (other ∷ more) = []

-- the queries that an event answers, if it is enabled in this world
abbrev pub query_items_by : {P : Type 0} → Plain P → LogWorld → Event → List Item
query_items_by plain w (Take (Client c) (Server s)) =
    query_items_of_front plain (length w.history) (tail_log (w.servers s)) c (w.links (Client c) (Server s))
query_items_by plain w event = []

-- the log world, the committed log and the items
pub record Account : Type 0 where
  pub world : LogWorld
  pub committed : List Entry
  pub items : List Item

-- what an enabled event makes of the three, where the world becomes this one
abbrev pub account_by : {P : Type 0} → Plain P → Account → Event → LogWorld → Account
account_by plain t event w =
    let committed = committed_by w event t.committed in
    record {
      world = w;
      committed = committed;
      items = t.items ++ (query_items_by plain t.world event ++ new_items plain (length t.world.history) t.committed committed);
    }

-- an event; one that isn't enabled changes nothing
abbrev pub next_account : {P : Type 0} → Plain P → Account → Event → Account
next_account plain t event =
    if is_enabled t.world event then account_by plain t event (acts (log_machine plain) t.world event) else t

-- events one after the other
abbrev pub account_after : {P : Type 0} → Plain P → Account → List Event → Account
account_after plain t [] = t
account_after plain t (event ∷ events) = account_after plain (next_account plain t event) events

-- before the first event
abbrev pub opening_account : {P : Type 0} → Plain P → ℕ → ℕ → Account
opening_account plain servers clients =
    record { world = opening_world (log_machine plain) servers clients; committed = []; items = [] }
