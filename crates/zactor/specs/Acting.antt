-- What a process of the program does with an input, by the definition of what processes do
-- (Does.antt of the world's model). A server may run out of memory. Then it stops, or it drops a
-- query.
use Rattle.std.specs.Prelude.{◌≡◌, ◌<◌, ℕ, Bool, true, false, not, is_some, if◌then◌else◌, List, [], ◌∷◌, Option, None, Some, Result, Ok, Err}
use Rattle.std.specs.Prelude.{option_to_list}
use Rattle.std.specs.Option.{option_map}
use Rattle.ztree.specs.Tree.{Tree}
use Rattle.zcalls.specs.declared.reply.Reply.{Reply}
use Rattle.zcalls.specs.Cached.{CachedState}
use Rattle.zprotocol.specs.declared.message.Message.TheVariants as message
use Rattle.zprotocol.specs.declared.process.Process.{Process}
use Rattle.zprotocol.specs.declared.process.Process.TheVariants.{Master, Server, Client}
use Rattle.zprotocol.specs.Posts.{Puts}
use Rattle.zprotocol.specs.server.Machine.{cached_tree}
use Rattle.zprotocol.specs.server.Memory.{may_be_unheard, may_stop}
use Rattle.zprotocol.specs.server.Table.{is_retirement}
use Rattle.zprotocol.specs.server.View.{Post}
use Rattle.zprotocol.specs.master.View.{MasterView}
use Rattle.zprotocol.specs.master.Table.{order_fault}
use Rattle.zprotocol.specs.client.View.{ClientView}
use Rattle.zprotocol.specs.client.Table.{begin_fault}
use Rattle.zclient.specs.Core.{IsResend}
use Rattle.zmaster.specs.declared.limits.TheConstants.{MAX_POSTS}
use Rattle.zserver.specs.Server.{TreeMessage, TreeOut}
use Rattle.zprotocol.specs.declared.world.history.CallEvent.TheVariants as call_event
use Rattle.zprotocol.specs.world.History.{History}
use Rattle.zprotocol.specs.world.Does as given
use Rattle.zprotocol.specs.world.Does.{Standing, AtMaster, AtServer, AtClient, Out, Effect, accepts, does, idle_effect, last_post}
use Rattle.zactor.specs.declared.input.Input.{Input}
use Rattle.zactor.specs.declared.input.Input.TheVariants.{Hear, Begin, Retry, Obey, Stop}
use Rattle.zactor.specs.declared.done.Done.{Done}
use Rattle.zactor.specs.declared.done.Done.TheVariants.{Acted, Unheard, Stopped, Left, Began, Answered}
use Rattle.zactor.specs.declared.handed.Handed.{Handed}
use Rattle.zactor.specs.declared.handed.Handed.TheVariants as handed
use Rattle.zactor.specs.declared.refusal.Refusal.{Refusal}
use Rattle.zactor.specs.declared.refusal.Refusal.TheVariants as refusal
use Rattle.zactor.specs.declared.act_fault.ActFault.{ActFault}
use Rattle.zactor.specs.declared.act_fault.ActFault.TheVariants.{Refused, Memory}

-- standings, inputs, effects and posts over the tree with its cached replies
abbrev pub TreeStanding : Type 0
TreeStanding = Standing (CachedState Tree)

abbrev pub TreeInput : Type 0
TreeInput = given.Input (CachedState Tree)

abbrev pub TreeEffect : Type 0
TreeEffect = Effect (CachedState Tree)

abbrev pub TreePost : Type 0
TreePost = Post (CachedState Tree)

-- the process can have that standing: it is of that kind; only a server stops for good
abbrev pub can_stand : Process → TreeStanding → Bool
can_stand Master (AtMaster v) = true
can_stand (Server s) (AtServer v) = true
can_stand (Server s) Out = true
can_stand (Client c) (AtClient v) = true
can_stand process standing = false

-- it has stopped for good
abbrev pub has_stopped : TreeStanding → Bool
has_stopped Out = true
has_stopped standing = false

-- the same input, of the definition
abbrev pub input_of : Input → TreeInput
input_of (Hear from message) = given.Hear from message
input_of (Begin call) = given.Begin call
input_of Retry = given.Retry
input_of (Obey order) = given.Obey order
input_of Stop = given.Stop

-- what an input resolves to, by what became of it: a server that ran out of memory has stopped
abbrev pub read : Input → Done → TreeInput
read input Stopped = given.Stop
read input done = input_of input

-- what a process of that standing does with an input, by what became of it. A message that it drops
-- has no effect
abbrev pub effect_of : Process → TreeStanding → Input → Done → TreeEffect
effect_of process standing input Unheard = idle_effect standing
effect_of process standing input done = does cached_tree process (read input done) standing

-- the reply that a message brings, if it brings one
abbrev pub reply_in : TreeMessage → Option Reply
reply_in (message.Answer number reply) = Some reply
reply_in other = None

-- this can become of the input, for that standing: a server stops, or drops a query, only where it
-- may when out of memory. A client returns a reply only at a message that brings one
abbrev pub can_come : TreeStanding → Input → Done → Bool
can_come (AtMaster v) (Hear from message) Acted = true
can_come (AtMaster v) (Obey order) Acted = true
can_come (AtServer v) (Hear from message) Acted = not (is_retirement from message)
can_come (AtServer v) (Hear from message) Left = is_retirement from message
can_come (AtServer v) (Hear from message) Unheard = may_be_unheard cached_tree v from message
can_come (AtServer v) (Hear from message) Stopped = may_stop cached_tree v from message
can_come (AtServer v) Stop Stopped = true
can_come (AtClient v) (Hear from message) Acted = true
can_come (AtClient v) (Hear from message) (Answered number) = is_some (reply_in message)
can_come (AtClient v) (Begin call) (Began number) = true
can_come (AtClient v) Retry Acted = true
can_come standing input done = false

-- by this the process has stopped for good
abbrev pub is_end : Done → Bool
is_end Stopped = true
is_end Left = true
is_end done = false

-- what it appends to the outgoing messages: all that it sends, except the failure notice of a
-- server that has stopped, which its runner delivers
abbrev pub put_by : Done → List TreePost → List TreePost
put_by Stopped posts = []
put_by Left posts = []
put_by done posts = posts

-- what callers see, by the result
abbrev pub reported_by : Process → Input → Done → History
reported_by (Client c) (Begin call) (Began number) = call_event.Begin c number call ∷ []
reported_by (Client c) (Hear from message) (Answered number) =
    option_to_list (option_map (λ reply. call_event.Answer c number reply) (reply_in message))
reported_by process input done = []

-- the process followed its definition from the old standing to the new one; the outgoing messages
-- were these and are those, and this became of the input
pub record HasActed (process : Process) (old new : TreeStanding) (input : Input) (before after : TreeOut) (done : Done) : Type 0 where
  pub comes : can_come old input done ≡ true
  pub accepted : accepts process (read input done) old ≡ true
  pub left : new ≡ (effect_of process old input done).left
  pub stands : can_stand process new ≡ true
  pub puts : Puts before after (put_by done (effect_of process old input done).posts)
  pub owed : is_end done ≡ true → (effect_of process old input done).posts ≡ last_post
  pub reported : (effect_of process old input done).reported ≡ reported_by process input done

-- the same, whatever number it has
abbrev pub Acts : TreeStanding → TreeStanding → Input → TreeOut → TreeOut → Done → Type 0
Acts old new input before after done =
    (process : Process) → can_stand process old ≡ true → HasActed process old new input before after done

-- why a process of that standing refuses an input, if it does. Out of memory isn't part of this
abbrev pub refusal_of : TreeStanding → Input → Option Refusal
refusal_of (AtMaster v) (Hear from message) = None
refusal_of (AtMaster v) (Obey order) = option_map (λ fault. refusal.Order fault) (order_fault v order)
refusal_of (AtServer v) (Hear from message) = None
refusal_of (AtServer v) Stop = None
refusal_of (AtClient v) (Hear from message) = None
refusal_of (AtClient v) (Begin call) = option_map (λ fault. refusal.Begin fault) (begin_fault v)
refusal_of (AtClient v) Retry = if is_some v.outstanding then None else Some refusal.NotAccepted
refusal_of standing input = Some refusal.NotAccepted

-- no process of that standing accepts the input; or each does
abbrev pub IsRefused : TreeStanding → Input → Type 0
IsRefused standing input = (process : Process) → accepts process (input_of input) standing ≡ false

abbrev pub IsAccepted : TreeStanding → Input → Type 0
IsAccepted standing input = (process : Process) → can_stand process standing ≡ true → accepts process (input_of input) standing ≡ true

-- the message that is to be handled, if the input is one
abbrev pub message_of : Input → Option TreeMessage
message_of (Hear from message) = Some message
message_of input = None

-- A process that accepts the input may run out of memory at it, where this much room is reserved
-- for outgoing messages. The master has to have room for all that it may send. A client sends its
-- call, at a message only if that makes it. A server never returns a message
abbrev pub MayWantMemory : TreeStanding → Input → ℕ → Type 0
MayWantMemory (AtMaster v) (Hear from message) room = room < MAX_POSTS
MayWantMemory (AtMaster v) (Obey order) room = room < MAX_POSTS
MayWantMemory (AtClient v) (Hear from message) room = IsResend v from message
MayWantMemory (AtClient v) (Begin call) room = Unit {0}
MayWantMemory (AtClient v) Retry room = Unit {0}
MayWantMemory standing input room = ⊥

-- why nothing was done with an input
abbrev pub IsActFault : TreeStanding → Input → ℕ → ActFault → Type 0
IsActFault standing input room (Refused why) = (refusal_of standing input ≡ Some why) × IsRefused standing input
IsActFault standing input room Memory = (refusal_of standing input ≡ None) × IsAccepted standing input × MayWantMemory standing input room

-- a slot after a reply was put into it, if there was one
abbrev pub with_reply : Option Reply → Handed → Handed
with_reply (Some reply) before = handed.Reply reply
with_reply None before = before

-- the caller's slot, by what became of the input: it receives a reply that is returned, or a
-- message for which memory ran out
abbrev pub handed_by : Input → Result Done ActFault → Handed → Handed
handed_by (Hear from message) (Ok (Answered number)) before = with_reply (reply_in message) before
handed_by (Hear from message) (Err Memory) before = handed.Message message
handed_by input result before = before

-- the reply in such a slot
abbrev pub reply_handed : Handed → Option Reply
reply_handed (handed.Reply reply) = Some reply
reply_handed other = None

abbrev pub message_handed : Handed → Option TreeMessage
message_handed (handed.Message message) = Some message
message_handed other = None

-- the views of the processes whose state can be read
abbrev pub master_in : TreeStanding → Option MasterView
master_in (AtMaster v) = Some v
master_in standing = None

abbrev pub client_in : TreeStanding → Option ClientView
client_in (AtClient v) = Some v
client_in standing = None
