-- What a clause says of a step of a client, from one endpoint and view to another.
use Rattle.std.specs.Prelude.{◌≡◌, ℕ, ◌+◌, true, [], ◌∷◌, Option, None, Some, is_some}
use Rattle.std.specs.Option.{option_map}
use Rattle.ztree.specs.Tree.{Tree}
use Rattle.zcalls.specs.declared.call.Call.{Call}
use Rattle.zcalls.specs.declared.reply.Reply.{Reply}
use Rattle.zcalls.specs.Cached.{CachedState}
use Rattle.zprotocol.specs.declared.message.Message.TheVariants as message
use Rattle.zprotocol.specs.declared.process.Process.{Process}
use Rattle.zprotocol.specs.server.View.{Transfer}
use Rattle.zserver.specs.Server.{TreeMessage}
use Rattle.zprotocol.specs.client.View.{ClientView}
use Rattle.zprotocol.specs.client.Table.{begin_step, client_step, retry_posts}
use Rattle.zprotocol.specs.declared.world.history.CallEvent.{CallEvent}
use Rattle.zprotocol.specs.declared.world.history.CallEvent.TheVariants as call_event
use Rattle.zprotocol.specs.declared.world.outcome.Outcome.TheVariants.{Acted}
use Rattle.zprotocol.specs.declared.traces.trace.Act.TheVariants as act
use Rattle.zprotocol.specs.world.Does.{answer_reported}
use Rattle.zthreads.specs.declared.endpoint.Endpoint.{Endpoint}
use Rattle.zthreads.specs.Endpoints.{IsEntered, pending, SameBooks, stamp_of_endpoint, TreeStamped}

-- the reply that a message brings
abbrev pub answer_event : ℕ → TreeMessage → Option CallEvent
answer_event c (message.Answer number reply) = Some (call_event.Answer c number reply)
answer_event c other = None

-- it heard the message, and acted by its table: it returns the table's reply, and what the table
-- sends is sent or waits to be sent
pub record Heard (c : ℕ) (a : Endpoint) (v : ClientView) (b : Endpoint) (w : ClientView) (from : Process) (m : TreeStamped) (reply : Option Reply) : Type 0 where
  pub view : w ≡ (client_step v from m.1).0
  pub given : reply ≡ option_map (λ given. given.1) (client_step v from m.1).2
  pub posts : pending b ≡ (client_step v from m.1).1
  pub entered : IsEntered a b (stamp_of_endpoint b) (act.Took from Acted) (answer_reported c (client_step v from m.1).2)

-- it heard nothing: it is as it was, and returns no reply
abbrev pub HeardNothing : Endpoint → ClientView → Endpoint → ClientView → Option Reply → Type 0
HeardNothing a v b w reply = SameBooks a b × (w ≡ v) × (reply ≡ None)

-- it invoked the call with that number, by its table
pub record Begins (c : ℕ) (a : Endpoint) (v : ClientView) (b : Endpoint) (w : ClientView) (call : Call) (number : ℕ) : Type 0 where
  pub numbered : number ≡ v.number + 1
  pub view : w ≡ (begin_step {T = Transfer (CachedState Tree)} v call).0
  pub posts : pending b ≡ (begin_step v call).1
  pub entered : IsEntered a b (stamp_of_endpoint b) (act.Began call) (call_event.Begin c number call ∷ [])

-- it sent its call once more, by its table
pub record SendsAgain (a : Endpoint) (v : ClientView) (b : Endpoint) (w : ClientView) : Type 0 where
  pub waits : is_some v.outstanding ≡ true
  pub view : w ≡ v
  pub posts : pending b ≡ retry_posts v
  pub entered : IsEntered a b (stamp_of_endpoint b) act.Retried []
