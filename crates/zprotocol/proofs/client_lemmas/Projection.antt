-- The client table commutes with every map between machines: it looks at none.
use Rattle.std.proofs.Common.{◌≡◌, refl, ℕ, ◌+◌, Bool, true, false, nat_lt, Option, None, Some, []}
use Rattle.std.specs.Prelude.{if◌then◌else◌}
use Rattle.zcalls.specs.declared.call.Call.{Call}
use Rattle.zcalls.specs.declared.call.Call.TheVariants as call
use Rattle.zcalls.specs.declared.reply.Reply.{Reply}
use Rattle.zprotocol.specs.declared.message.Message.TheVariants as message
use Rattle.zprotocol.specs.declared.process.Process.{Process}
use Rattle.zprotocol.specs.declared.process.Process.TheVariants.{Master, Server}
use Rattle.zprotocol.specs.server.View.{Transfer, MessageOf}
use Rattle.zprotocol.specs.server.support.Homomorphism.{message_with, posts_with}
use Rattle.zprotocol.specs.client.View.{ClientView}
use Rattle.zprotocol.specs.client.Table.{outstanding_posts, call_posts, begin_step, ClientResult, no_effect, is_waiting_for, answer_row, config_row, client_step, retry_posts}
use Rattle.zprotocol.specs.client.Laws.{client_result_with}

module _ {M N : Type 0} (h : M → N) where
  -- a call names no machine
  sent_with : (head tail : Option ℕ) (number : ℕ) (c : Call) → call_posts head tail number c ≡ posts_with h (call_posts head tail number c)
  sent_with None tail number (call.Update update) = refl
  sent_with (Some s) tail number (call.Update update) = refl
  sent_with head None number (call.Query query) = refl
  sent_with head (Some s) number (call.Query query) = refl

  send_fields : (number : ℕ) (outstanding : Option (ℕ × Call)) (epoch : ℕ) (head tail : Option ℕ)
      → outstanding_posts (record { number = number; outstanding = outstanding; epoch = epoch; head = head; tail = tail })
      ≡ posts_with h (outstanding_posts (record { number = number; outstanding = outstanding; epoch = epoch; head = head; tail = tail }))
  send_fields number None epoch head tail = refl
  send_fields number (Some waits) epoch head tail = sent_with head tail waits.0 waits.1

  send_with : (v : ClientView) → outstanding_posts v ≡ posts_with h (outstanding_posts v)
  send_with v = send_fields v.number v.outstanding v.epoch v.head v.tail

  if_with : (b : Bool) (x y : ClientResult (Transfer M)) (x' y' : ClientResult (Transfer N)) → x' ≡ client_result_with h x → y' ≡ client_result_with h y → (if b then x' else y') ≡ client_result_with h (if b then x else y)
  if_with true x y x' y' p q = p
  if_with false x y x' y' p q = q

  answer_with : (v : ClientView) (number : ℕ) (reply : Reply) → answer_row v number reply ≡ client_result_with h (answer_row v number reply)
  unfolding answer_row
  answer_with v number reply =
      let w : ClientView = record v { outstanding = None } in
      if_with (is_waiting_for v number) (w, [], Some (number, reply)) (no_effect v) (w, [], Some (number, reply)) (no_effect v) refl refl

  config_with : (v : ClientView) (epoch : ℕ) (head tail : Option ℕ) → config_row v epoch head tail ≡ client_result_with h (config_row v epoch head tail)
  unfolding config_row
  config_with v epoch head tail =
      let w : ClientView = record v { epoch = epoch; head = head; tail = tail } in
      if_with (nat_lt v.epoch epoch) (w, outstanding_posts w, None) (no_effect v) (w, outstanding_posts w, None) (no_effect v) (λ i. (w, send_with w i, None)) refl

  -- a call, a retry, and the table
  pub begins_with : (v : ClientView) (c : Call) → begin_step v c ≡ ((begin_step {T = Transfer M} v c).0, posts_with h (begin_step v c).1)
  unfolding begin_step
  begins_with v c =
      let w : ClientView = record v { number = v.number + 1; outstanding = Some (v.number + 1, c) } in
      λ i. (w, send_with w i)

  pub retries_with : (v : ClientView) → retry_posts v ≡ posts_with h (retry_posts v)
  unfolding retry_posts
  retries_with v = send_with v

  pub table_with : (v : ClientView) (from : Process) (m : MessageOf M) → client_step v from (message_with h m) ≡ client_result_with h (client_step v from m)
  unfolding client_step
  table_with v (Server s) (message.Answer number reply) = answer_with v number reply
  table_with v Master (message.Config epoch head tail) = config_with v epoch head tail
  table_with v from m = refl
