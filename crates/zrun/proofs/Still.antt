-- A client after more calls.
use Rattle.std.proofs.Common.{◌≡◌, ℕ, sym, ap, subst, ◌∙◌}
use Rattle.zprotocol.specs.declared.process.Process.{Process}
use Rattle.zprotocol.specs.declared.process.Process.TheVariants.{Master, Server, Client}
use Rattle.zthreads.specs.declared.endpoint.Endpoint.{Endpoint}
use Rattle.zthreads.specs.Endpoints.{SameEndpoint}
use Rattle.zthreads.specs.declared.caller.Caller.{Caller}
use Rattle.zthreads.specs.Callers.{caller_endpoint, caller_id}
use Rattle.zrun.specs.declared.client.Client as client
use Rattle.zrun.specs.Origins.{endpoint_wiring, IsOneOf, Run, Wiring}
use Rattle.zrun.specs.Clients.{BelongsTo, SameClient}

number_in : Process → ℕ
number_in Master = 0
number_in (Server s) = s
number_in (Client c) = c

same_client : (a b : ℕ) → Client a ≡ Client b → a ≡ b
unfolding number_in
same_client a b same = ap number_in same

-- it has the number that it had
pub still_number : (a b : Caller) → SameEndpoint (caller_endpoint a) (caller_endpoint b) → caller_id b ≡ caller_id a
still_number a b same = same_client (caller_id b) (caller_id a) (sym b.is_client ∙ same.me ∙ a.is_client)

-- and its wiring
pub still_wired : (a b : Endpoint) → SameEndpoint a b → endpoint_wiring b ≡ endpoint_wiring a
still_wired a b same k = record {
  me = same.me k;
  last = same.last k;
  clients = same.clients k;
  traced = same.traced k;
  links = same.links k;
  ins = same.ins k;
  outs = same.outs k;
}

pub wired_alike : (a b : Endpoint) → endpoint_wiring b ≡ endpoint_wiring a → SameEndpoint a b
wired_alike a b same = record {
  me = ap (λ w. w.me) same;
  last = ap (λ w. w.last) same;
  clients = ap (λ w. w.clients) same;
  traced = ap (λ w. w.traced) same;
  links = ap (λ w. w.links) same;
  ins = ap (λ w. w.ins) same;
  outs = ap (λ w. w.outs) same;
}

-- it belongs to the run that it belonged to
pub still_belongs : (run : Run) (a b : client.Client) → BelongsTo run a → SameClient a b → BelongsTo run b
still_belongs run a b belongs same = subst (λ (w : ℕ × Wiring). IsOneOf run w.0 w.1) (λ k. (sym same.number k, sym same.wiring k)) belongs
