-- How many calls a client began: a begin counts one more, and nothing else counts.
use Rattle.std.proofs.Common.{◌≡◌, ℕ, ◌+◌, zero, suc, Bool, true, false, Option, None, Some, [], nat_lt, refl, ap, ◌∙◌, ⊎_elim}
use Rattle.std.specs.Prelude.{if◌then◌else◌}
use Rattle.zcalls.specs.declared.call.Call.{Call}
use Rattle.zcalls.specs.declared.reply.Reply.{Reply}
use Rattle.zprotocol.specs.declared.message.Message.{Message}
use Rattle.zprotocol.specs.declared.message.Message.TheVariants as message
use Rattle.zprotocol.specs.declared.process.Process.{Process}
use Rattle.zprotocol.specs.declared.process.Process.TheVariants.{Master, Server}
use Rattle.zprotocol.specs.client.View.{ClientView}
use Rattle.zprotocol.specs.client.Table.{answer_row, begin_step, client_step, ClientResult, config_row, is_waiting_for, no_effect, outstanding_posts}
use Rattle.zthreads.specs.declared.caller.Caller.{Caller}
use Rattle.zthreads.specs.Callers.{Began, caller_view, Turned}
use Rattle.zrun.specs.Clients.{TurnedInVain, TurnedUntil}
use Rattle.zrun.specs.Asked.{SentAgain}

module _ (T : Type 0) (v : ClientView) where
  either : (b : Bool) (x y : ClientResult T) → x.0.number ≡ v.number → y.0.number ≡ v.number → (if b then x else y).0.number ≡ v.number
  either true x y p q = p
  either false x y p q = q

  answered : (number : ℕ) (reply : Reply) → (answer_row {T = T} v number reply).0.number ≡ v.number
  unfolding answer_row
  answered number reply = either (is_waiting_for v number) (record v { outstanding = None }, [], Some (number, reply)) (no_effect v) refl refl

  configured : (epoch : ℕ) (head tail : Option ℕ) → (config_row {T = T} v epoch head tail).0.number ≡ v.number
  unfolding config_row
  configured epoch head tail =
      let w : ClientView = record v { epoch = epoch; head = head; tail = tail } in
      either (nat_lt v.epoch epoch) (w, outstanding_posts w, None) (no_effect v) refl refl

  stepped : (from : Process) (m : Message T) → (client_step v from m).0.number ≡ v.number
  unfolding client_step
  stepped (Server s) (message.Answer number reply) = answered number reply
  stepped Master (message.Config epoch head tail) = configured epoch head tail
  stepped from m = refl

  begun : (call : Call) → (begin_step {T = T} v call).0.number ≡ v.number + 1
  unfolding begin_step
  begun call = refl

abbrev count : Caller → ℕ
count c = (caller_view c).number

pub began_once : (a b : Caller) (call : Call) (number : ℕ) → Began a b call number → count b ≡ count a + 1
began_once a b call number began = ap (λ (v : ClientView). v.number) began.0.view ∙ begun _ (caller_view a) call

turned : (a b : Caller) (reply : Option Reply) → Turned a b reply → count b ≡ count a
turned a b reply took =
    ⊎_elim (λ idle. ap (λ (v : ClientView). v.number) idle.1) (λ heard. ap (λ (v : ClientView). v.number) heard.2.view
    ∙ stepped _ (caller_view a) heard.0 heard.1.1) took

pub in_vain : (n : ℕ) (a b : Caller) → TurnedInVain n a b → count b ≡ count a
in_vain zero a b same = ap count same
in_vain (suc n) a b took = turned took.0 b None took.2 ∙ in_vain n a took.0 took.1

pub until : (turns : ℕ) (a b : Caller) (reply : Reply) → TurnedUntil turns a b reply → count b ≡ count a
until turns a b reply took = turned took.2 b (Some reply) took.4 ∙ in_vain took.0 a took.2 took.3

pub sent : (a b : Caller) → SentAgain a b → count b ≡ count a
sent a b again = ⊎_elim (λ retried. ap (λ (v : ClientView). v.number) retried.0.view) (λ same. ap (λ (v : ClientView). v.number) same.1) again
