-- The client table is the rows of its cases.
use Rattle.std.proofs.Common.{◌≡◌, ℕ, true, nat_lt, Option, Some, None, sym, ap, inl, inr, eqb-true, ltb-true}
use mathlib.Core.Bool.{true≢false}
use Rattle.zcalls.specs.declared.call.Call.{Call}
use Rattle.zcalls.specs.declared.reply.Reply.{Reply}
use Rattle.zcalls.proofs.Among.{test}
use Rattle.zprotocol.specs.declared.message.Message.{Message}
use Rattle.zprotocol.specs.declared.message.Message.TheVariants as message
use Rattle.zprotocol.specs.declared.process.Process.{Process}
use Rattle.zprotocol.specs.declared.process.Process.TheVariants.{Master, Server}
use Rattle.zprotocol.specs.client.View.{ClientView}
use Rattle.zprotocol.specs.client.Table.{is_waiting_for, answer_row, config_row, client_step}
use Rattle.zprotocol.specs.client.support.Cases.{IsClientRow, Ignores, Answers, Configures}

-- the call that is waited for
waits : (v : ClientView) (outstanding : Option (ℕ × Call)) (number : ℕ) → is_waiting_for (record v { outstanding = outstanding }) number ≡ true
    → (call : Call) × (outstanding ≡ Some (number, call))
waits v None number is = absurd (true≢false (sym is))
waits v (Some waited) number is = (waited.1, ap (λ n. Some (n, waited.1)) (eqb-true _ _ is))

module _ {T : Type 0} (v : ClientView) where
  answered : (s number : ℕ) (reply : Reply) → IsClientRow {T = T} v (Server s) (message.Answer number reply) (answer_row v number reply)
  unfolding answer_row
  answered s number reply = elim (test (is_waiting_for v number)) [
    | inl is ↦
        let call = waits v v.outstanding number is in
        rw is (Answers s number call.0 reply call.1)
    | inr not ↦ rw not (Ignores (Server s) (message.Answer number reply))
  ]

  configured : (epoch : ℕ) (head tail : Option ℕ) → IsClientRow {T = T} v Master (message.Config epoch head tail) (config_row v epoch head tail)
  unfolding config_row
  configured epoch head tail = elim (test (nat_lt v.epoch epoch)) [
    | inl is ↦ rw is (Configures epoch head tail (ltb-true _ _ is))
    | inr not ↦ rw not (Ignores Master (message.Config epoch head tail))
  ]

  -- the table is these rows
  pub client_case : (from : Process) (m : Message T) → IsClientRow v from m (client_step v from m)
  unfolding client_step
  client_case (Server s) (message.Answer number reply) = answered s number reply
  client_case Master (message.Config epoch head tail) = configured epoch head tail
  client_case from m = Ignores from m
