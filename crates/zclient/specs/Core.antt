-- What the client table leaves open: out of memory, and how a reply is returned.
use Rattle.std.specs.Prelude.{◌≡◌, ◌<◌, ℕ, Option, None, Some, List}
use Rattle.std.specs.Option.{IsSome, option_map}
use Rattle.zcalls.specs.declared.reply.Reply.{Reply}
use Rattle.zprotocol.specs.declared.message.Message.{Message}
use Rattle.zprotocol.specs.declared.message.Message.TheVariants as message
use Rattle.zprotocol.specs.declared.process.Process.{Process}
use Rattle.zprotocol.specs.declared.process.Process.TheVariants.{Master}
use Rattle.zprotocol.specs.server.View.{PostOf}
use Rattle.zprotocol.specs.declared.client.begin_fault.BeginFault.{BeginFault}
use Rattle.zprotocol.specs.declared.client.begin_fault.BeginFault.TheVariants.{Memory}
use Rattle.zprotocol.specs.client.View.{ClientView}
use Rattle.zprotocol.specs.client.Table.{begin_fault, outstanding_posts}

-- a call is refused with this fault: the table's own, or `Memory` where the table would allow the
-- call
abbrev pub IsBeginFault : ClientView → BeginFault → Type 0
IsBeginFault v Memory = begin_fault v ≡ None
IsBeginFault v fault = begin_fault v ≡ Some fault

-- at this message a call has to be sent again: it is a later configuration, and a call is
-- outstanding
abbrev pub IsResend : {T : Type 0} → ClientView → Process → Message T → Type 0
IsResend v Master (message.Config epoch head tail) = (v.epoch < epoch) × IsSome v.outstanding
IsResend v from other = ⊥

-- the reply that is returned, without the number of its call
abbrev pub reply_of : Option (ℕ × Reply) → Option Reply
reply_of given = option_map (λ answer. answer.1) given

-- the outstanding call, sent to these ends of the chain
abbrev pub sent_to : {T : Type 0} → ClientView → Option ℕ → Option ℕ → List (PostOf T)
sent_to v head tail = outstanding_posts (record v { head = head; tail = tail })
