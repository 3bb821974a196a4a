-- What one process does. It has a view, and is given one input: a message that it receives, or
-- something from outside. Then it has another view, it has sent messages, and callers have seen
-- something. The events of the world and lawful traces are both defined by this function.
use Rattle.std.specs.Prelude.{ℕ, Bool, true, false, ◌&&◌, is_some, is_none, if◌then◌else◌, List, [], ◌∷◌, Option, None, Some}
use Rattle.zcalls.specs.declared.call.Call.{Call}
use Rattle.zcalls.specs.declared.reply.Reply.{Reply}
use Rattle.zprotocol.specs.declared.message.Message.TheVariants as message
use Rattle.zprotocol.specs.declared.process.Process.{Process}
use Rattle.zprotocol.specs.declared.process.Process.TheVariants.{Master, Server, Client}
use Rattle.zprotocol.specs.Places.{is_server}
use Rattle.zprotocol.specs.server.Machine.{Does}
use Rattle.zprotocol.specs.server.View.{ServerView, Transfer, MessageOf, Post}
use Rattle.zprotocol.specs.server.Table as server
use Rattle.zprotocol.specs.declared.master.order.Order.{Order}
use Rattle.zprotocol.specs.master.Order.{server_of}
use Rattle.zprotocol.specs.master.View.{MasterView}
use Rattle.zprotocol.specs.master.Table as master
use Rattle.zprotocol.specs.client.View.{ClientView}
use Rattle.zprotocol.specs.client.Table as client
use Rattle.zprotocol.specs.declared.world.history.CallEvent.TheVariants as call_event
use Rattle.zprotocol.specs.world.History.{History}

-- the standing of a process: its view; or it takes no part, as a server that has stopped for good
pub data Standing (M : Type 0) : Type 0 where
  AtMaster : MasterView → Standing M
  AtServer : ServerView M → Standing M
  AtClient : ClientView → Standing M
  Out : Standing M

-- what a process is given: a message with its sender, or something from outside. From outside come
-- a call to invoke, a request to send the outstanding call once more, an order, or a request to
-- stop for good
pub data Input (M : Type 0) : Type 0 where
  Hear : Process → MessageOf M → Input M
  Begin : Call → Input M
  Retry : Input M
  Obey : Order → Input M
  Stop : Input M

-- the effect: the process's standing then, what it sends, and what callers see
pub record Effect (M : Type 0) : Type 0 where
  pub left : Standing M
  pub posts : List (Post M)
  pub reported : History

-- a process of that standing does something with the input, and doesn't refuse it
abbrev pub accepts : {M : Type 0} → Process → Input M → Standing M → Bool
accepts Master (Hear from m) (AtMaster v) = true
accepts Master (Obey order) (AtMaster v) = is_server (server_of order) && is_none (master.order_fault v order)
accepts (Server s) (Hear from m) (AtServer v) = true
accepts (Server s) Stop (AtServer v) = true
accepts (Client c) (Hear from m) (AtClient v) = true
accepts (Client c) (Begin call) (AtClient v) = is_none (client.begin_fault v)
accepts (Client c) Retry (AtClient v) = is_some v.outstanding
accepts process input standing = false

-- the master has this view then, and sends this; so does a server
abbrev pub master_effect : {M : Type 0} → master.MasterResult (Transfer M) → Effect M
master_effect did = record { left = AtMaster did.0; posts = did.1; reported = [] }

abbrev pub server_effect : {M : Type 0} → server.ServerResult M → Effect M
server_effect did = record { left = AtServer did.0; posts = did.1; reported = [] }

-- the failure notice of a server, its last message
abbrev pub last_post : {M : Type 0} → List (Post M)
last_post = (Master, message.Gone) ∷ []

-- a server stops for good. What it had sent is still delivered; zlinearizability/specs/Cuts.antt
-- has the runs in which any end of it is lost
abbrev pub stop_effect : {M : Type 0} → Effect M
stop_effect = record { left = Out; posts = last_post; reported = [] }

-- the answer that a client returns, if any, under its call's number, as callers see it
abbrev pub answer_reported : ℕ → Option (ℕ × Reply) → History
answer_reported c None = []
answer_reported c (Some reply) = call_event.Answer c reply.0 reply.1 ∷ []

-- a client has this view then, sends this, and returns this answer
abbrev pub client_effect : {M : Type 0} → ℕ → client.ClientResult (Transfer M) → Effect M
client_effect c did = record { left = AtClient did.0; posts = did.1; reported = answer_reported c did.2 }

-- a client that invokes a call
abbrev pub begin_effect : {M : Type 0} → ℕ → Call → ClientView × List (Post M) → Effect M
begin_effect c call did = record { left = AtClient did.0; posts = did.1; reported = call_event.Begin c did.0.number call ∷ [] }

-- nothing changes, nothing is sent, and callers see nothing
abbrev pub idle_effect : {M : Type 0} → Standing M → Effect M
idle_effect standing = record { left = standing; posts = []; reported = [] }

-- what a process does with an input that it accepts: it follows its table. A server that receives
-- the order to leave stops for good
abbrev pub does : {M : Type 0} → Does M → Process → Input M → Standing M → Effect M
does machine Master (Hear from m) (AtMaster v) = master_effect (master.master_step v from m)
does machine Master (Obey order) (AtMaster v) = master_effect (master.order_step v order)
does machine (Server s) (Hear from m) (AtServer v) =
    if server.is_retirement from m then stop_effect else server_effect (server.server_step machine v from m)
does machine (Server s) Stop (AtServer v) = stop_effect
does machine (Client c) (Hear from m) (AtClient v) = client_effect c (client.client_step v from m)
does machine (Client c) (Begin call) (AtClient v) = begin_effect c call (client.begin_step v call)
does machine (Client c) Retry (AtClient v) = record { left = AtClient v; posts = client.retry_posts v; reported = [] }
does machine process input standing = idle_effect standing
