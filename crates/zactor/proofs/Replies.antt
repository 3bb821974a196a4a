-- What a client hands out, and under which number.
use Rattle.std.proofs.Common.{◌≡◌, ℕ, Bool, true, false, Option, None, Some, is_some, refl, sym, ap}
use Rattle.std.specs.Prelude.{nat_lt}
use mathlib.Core.Bool.{true≢false}
use Rattle.ztree.specs.Tree.{Tree}
use Rattle.zcalls.specs.declared.reply.Reply.{Reply}
use Rattle.zcalls.specs.Cached.{CachedState}
use Rattle.zprotocol.specs.declared.message.Message.TheVariants as message
use Rattle.zprotocol.specs.declared.process.Process.{Process}
use Rattle.zprotocol.specs.declared.process.Process.TheVariants.{Master, Server, Client}
use Rattle.zprotocol.specs.server.View.{Transfer}
use Rattle.zprotocol.specs.client.View.{ClientView}
use Rattle.zprotocol.specs.client.Table.{answer_row, client_step, config_row, is_waiting_for}
use Rattle.zclient.specs.Core.{reply_of}
use Rattle.zserver.specs.Server.{TreeMessage}
use Rattle.zactor.specs.Acting.{reply_in}
use Rattle.zactor.specs.support.Kinds.{answered_number}

no_some : {A : Type 0} {x : A} → Some x ≡ None → ⊥
no_some e = true≢false (ap is_some e)

-- this is handed out: the reply that was brought, under its number
abbrev HandedOut : Option (ℕ × Reply) → Option ℕ → Option Reply → Reply → Type 0
HandedOut given number brought r = (n : ℕ) × (number ≡ Some n) × (given ≡ Some (n, r)) × (brought ≡ Some r)

given_reply : (n : ℕ) (reply r : Reply) → Some r ≡ Some reply → HandedOut (Some (n, reply)) (Some n) (Some reply) r
given_reply n reply r e =
    let same : r ≡ reply = cc e in
    (n, refl, ap (λ x. Some (n, x)) (sym same), sym e)

of_answer : (v : ClientView) (n : ℕ) (reply r : Reply) (b : Bool) → is_waiting_for v n ≡ b
    → Some r ≡ reply_of (answer_row {T = Transfer (CachedState Tree)} v n reply).2
    → HandedOut (answer_row {T = Transfer (CachedState Tree)} v n reply).2 (Some n) (Some reply) r
unfolding answer_row
of_answer v n reply r true e = rw e (given_reply n reply r)
of_answer v n reply r false e = rw e (λ given. absurd (no_some given))

of_config : (v : ClientView) (epoch : ℕ) (head tail : Option ℕ) (r : Reply) (b : Bool) → nat_lt v.epoch epoch ≡ b
    → Some r ≡ reply_of (config_row {T = Transfer (CachedState Tree)} v epoch head tail).2 → ⊥
unfolding config_row
of_config v epoch head tail r true e = rw e no_some
of_config v epoch head tail r false e = rw e no_some

-- a reply is handed out at an answer alone: it is that of the answer, under its number
pub handed_out : (v : ClientView) (from : Process) (m : TreeMessage) (r : Reply) → Some r ≡ reply_of (client_step v from m).2
    → HandedOut (client_step v from m).2 (answered_number m) (reply_in m) r
unfolding client_step
handed_out v (Server s) (message.Answer n reply) r given = of_answer v n reply r (is_waiting_for v n) refl given
handed_out v Master (message.Config epoch head tail) r given = absurd (of_config v epoch head tail r (nat_lt v.epoch epoch) refl given)
handed_out v (Server s) other r given = absurd (no_some given)
handed_out v Master other r given = absurd (no_some given)
handed_out v (Client d) other r given = absurd (no_some given)
