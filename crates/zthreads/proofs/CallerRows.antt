-- What is returned to a client's caller.
use Rattle.std.proofs.Common.{◌≡◌, ℕ, ◌+◌, Bool, true, false, Option, Some, None, is_some, if◌then◌else◌, nat_lt, refl, ap}
use Rattle.std.specs.Prelude.{option_to_list}
use Rattle.std.specs.Option.{option_map}
use mathlib.Core.Bool.{true≢false}
use Rattle.ztree.specs.Tree.{Tree}
use Rattle.zcalls.specs.Cached.{CachedState}
use Rattle.zcalls.specs.declared.call.Call.{Call}
use Rattle.zcalls.specs.declared.reply.Reply.{Reply}
use Rattle.zserver.specs.Server.{TreeMessage}
use Rattle.zprotocol.specs.server.View.{Transfer}
use Rattle.zprotocol.specs.declared.message.Message.TheVariants as message
use Rattle.zprotocol.specs.declared.process.Process.{Process}
use Rattle.zprotocol.specs.declared.process.Process.TheVariants.{Master, Server, Client}
use Rattle.zprotocol.specs.client.View.{ClientView}
use Rattle.zprotocol.specs.client.Table.{begin_step, client_step, answer_row, config_row, is_waiting_for}
use Rattle.zprotocol.specs.declared.world.history.CallEvent.{CallEvent}
use Rattle.zprotocol.specs.declared.world.history.CallEvent.TheVariants as call_event
use Rattle.zprotocol.specs.world.Does.{answer_reported}
use Rattle.zthreads.specs.Steps.{answer_event}

-- what is returned to the caller at a message
no_some : {A : Type 0} (x : A) → Some x ≡ None → ⊥
no_some x e = true≢false (ap is_some e)

answered : (v : ClientView) (c number : ℕ) (reply : Reply) (b : Bool) → is_waiting_for v number ≡ b
    → option_to_list (if is_some (option_map (λ g. g.1) (answer_row {T = Transfer (CachedState Tree)} v number reply).2)
    then Some (call_event.Answer c number reply) else None)
    ≡ answer_reported c (answer_row {T = Transfer (CachedState Tree)} v number reply).2
unfolding answer_row
answered v c number reply true e = rw e refl
answered v c number reply false e = rw e refl

configured : (v : ClientView) (c epoch : ℕ) (head tail : Option ℕ) (b : Bool) → nat_lt v.epoch epoch ≡ b
    → (config_row {T = Transfer (CachedState Tree)} v epoch head tail).2 ≡ None
unfolding config_row
configured v c epoch head tail true e = rw e refl
configured v c epoch head tail false e = rw e refl

none_reported : (c : ℕ) (o : Option (ℕ × Reply)) (e : Option CallEvent) → o ≡ None
    → option_to_list (if is_some (option_map (λ g. g.1) o) then e else None) ≡ answer_reported c o
none_reported c None e is = refl
none_reported c (Some g) e is = absurd (no_some g is)

pub reported : (v : ClientView) (c : ℕ) (from : Process) (m : TreeMessage)
    → option_to_list (if is_some (option_map (λ g. g.1) (client_step v from m).2) then answer_event c m else None)
    ≡ answer_reported c (client_step v from m).2
unfolding client_step
reported v c (Server s) (message.Answer number reply) = answered v c number reply (is_waiting_for v number) refl
reported v c Master (message.Config epoch head tail) = none_reported c (config_row v epoch head tail).2
    None (configured v c epoch head tail (nat_lt v.epoch epoch) refl)
reported v c (Server s) other = refl
reported v c Master other = refl
reported v c (Client d) other = refl

pub begin_number : (v : ClientView) (call : Call) → (begin_step {T = Transfer (CachedState Tree)} v call).0.number ≡ v.number + 1
unfolding begin_step
begin_number v call = refl
