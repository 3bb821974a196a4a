-- Events of clients do nothing in the chain's world without clients, but for what is put for them.
use Rattle.std.specs.Prelude.{◌&&◌, not, is_some, is_none, if◌then◌else◌}
use Rattle.std.proofs.Common.{◌≡◌, ℕ, Bool, true, false, nat_lt, ◌==◌, List, [], ◌∷◌, ◌++◌, Some, None, refl, sym, ap, ◌∙◌, subst, inl, inr, arith, le-ltb}
use Rattle.zcalls.specs.declared.call.Call.{Call}
use Rattle.zcalls.specs.declared.call.Entry.{Entry}
use Rattle.zcalls.specs.Cached.{Plain}
use Rattle.zcalls.proofs.Among.{test}
use Rattle.zprotocol.specs.declared.message.Message.{Message}
use Rattle.zprotocol.specs.declared.message.Message.TheVariants as message
use Rattle.zprotocol.specs.declared.process.Process.{Process}
use Rattle.zprotocol.specs.declared.process.Process.TheVariants.{Master, Server, Client}
use Rattle.zprotocol.specs.declared.world.event.Event.{Event}
use Rattle.zprotocol.specs.declared.world.event.Event.TheVariants.{Begin, Retry, Take, Ignore}
use Rattle.zprotocol.specs.server.Machine.{Does}
use Rattle.zprotocol.specs.server.View.{Transfer, MessageOf, PostOf}
use Rattle.zprotocol.specs.master.View.{MasterView}
use Rattle.zprotocol.specs.client.Table as client
use Rattle.zprotocol.specs.client.View.{ClientView}
use Rattle.zprotocol.specs.world.Links.{messages_to, put, without_front}
use Rattle.zprotocol.specs.world.World.{World}
use Rattle.zprotocol.specs.world.Does.{client_effect}
use Rattle.zprotocol.specs.world.Events.{front_is, is_request, has_failed, is_enabled, did_in, front_step, acts, happens}
use Rattle.zlinearizability.specs.chain.Flow.{log_machine, LogWorld, LogMessage}
use Rattle.zheads.proofs.Shown.{IsInside, shown}
use Rattle.zheads.proofs.Represents.{Represents, happens_idle, happens_does, let_go_shown, pop_outside}

-- a client without a call sends nothing, and stays so
client_idle : {T : Type 0} (v : ClientView) (from : Process) (m : Message T) → v.outstanding ≡ None
    → ((client.client_step {T = T} v from m).0.outstanding ≡ None) × ((client.client_step {T = T} v from m).1 ≡ [])
unfolding client.client_step client.answer_row client.config_row
client_idle {T} v (Server s) (message.Answer number reply) none = by (client.is_waiting_for v number)
  where
    by : (b : Bool) → let r : client.ClientResult T = if b then (record v { outstanding = None }, [], Some (number, reply)) else client.no_effect v in
        (r.0.outstanding ≡ None) × (r.1 ≡ [])
    by true = (refl, refl)
    by false = (none, refl)
client_idle {T} v Master (message.Config epoch head tail) none = by (nat_lt v.epoch epoch)
  where
    by : (b : Bool) → let later : ClientView = record v { epoch = epoch; head = head; tail = tail } in
        let r : client.ClientResult T = if b then (later, client.outstanding_posts later, None) else client.no_effect v in
        (r.0.outstanding ≡ None) × (r.1 ≡ [])
    by true = (none, ap (λ o. elim o as (λ x. List (PostOf T)) [ None ↦ [] | Some waits ↦ client.call_posts head tail waits.0 waits.1 ]) none)
    by false = (none, refl)
client_idle v from m none = (none, refl)

module _ {M : Type 0} (machine : Does M) {P : Type 0} (plain : Plain P) where
  abbrev logs : Does (List Entry)
  logs = log_machine plain

  abbrev show : LogMessage → MessageOf M
  show m = shown machine m

  abbrev Shows : World M → LogWorld → Type 0
  Shows w v = Represents machine plain w v

  -- an event that happens in the first alone, and one that happens in neither
  one_idle : (w : World M) (v : LogWorld) (event : Event) → Shows w v → is_enabled w event ≡ false → Shows (happens machine w event) v
  one_idle w v event r e = subst (λ x. Shows x v) (sym (happens_idle machine w event e)) r

  one_does : (w : World M) (v : LogWorld) (event : Event) → Shows w v → (is_enabled w event ≡ true → Shows (acts machine w event) v)
      → Shows (happens machine w event) v
  one_does w v event r did = elim (test (is_enabled w event)) [
    | inl t ↦ subst (λ x. Shows x v) (sym (happens_does machine w event t)) (let_go_shown machine plain (acts machine w event) v (did t))
    | inr f ↦ one_idle w v event r f
  ]

  -- events of clients
  pub begin_event : (w : World M) (v : LogWorld) → Shows w v → (c : ℕ) (call : Call) → Shows (happens machine w (Begin c call)) v
  begin_event w v r c call =
      let none : nat_lt c w.master.clients ≡ false =
      ap (λ n. nat_lt c n) (ap (λ (x : MasterView). x.clients) r.master ∙ r.alone) ∙ le-ltb c 0 (omega arith) in
      one_idle w v (Begin c call) r (ap (λ b. b && is_none (client.begin_fault (w.clients c))) none)

  pub retry_event : (w : World M) (v : LogWorld) → Shows w v → (c : ℕ) → Shows (happens machine w (Retry c)) v
  retry_event w v r c = one_idle w v (Retry c) r (ap is_some (r.idle c))

  -- nothing is taken from a client
  pub no_request : (w : World M) (v : LogWorld) → Shows w v → (c : ℕ) (to : Process) → Shows (happens machine w (Take (Client c) to)) v
  no_request w v r c to = one_idle w v (Take (Client c) to) r
      (ap (λ (l : List (MessageOf M)). front_is (λ m. true) l && not (has_failed w to)) (r.requests c to))

  pub no_loss : (w : World M) (v : LogWorld) → Shows w v → (c : ℕ) (to : Process) → Shows (happens machine w (Ignore (Client c) to)) v
  no_loss w v r c to = one_idle w v (Ignore (Client c) to) r
      (ap (λ (l : List (MessageOf M)). front_is is_request l && not (has_failed w to)) (r.requests c to))

  -- a client takes something, which does nothing
  client_did : (w : World M) (v : LogWorld) → Shows w v → (c : ℕ) (did : client.ClientResult (Transfer M)) → did.0.outstanding ≡ None → did.1 ≡ []
      → Shows (did_in w (Client c) (client_effect c did)) v
  client_did w v r c did none silent = record {
    master = r.master;
    failed = r.failed;
    servers = r.servers;
    links = λ p q i j live. inside p q i ∙ r.links p q i j live;
    requests = λ d q. nothing (d == c) (w.links (Client d) q) (messages_to q did.1) (r.requests d q) (ap (messages_to q) silent);
    idle = λ d. still (d == c) did.0 (w.clients d) none (r.idle d);
    alone = r.alone;
  }
    where
      inside : (p q : Process) → IsInside p → put w.links (Client c) did.1 p q ≡ w.links p q
      inside Master q i = refl
      inside (Server s) q i = refl
      inside (Client d) q i = absurd i

      nothing : (b : Bool) (l x : List (MessageOf M)) → l ≡ [] → x ≡ [] → (if b then l ++ x else l) ≡ []
      nothing true l x is none = λ i. is i ++ none i
      nothing false l x is none = is

      still : (b : Bool) (x y : ClientView) → x.outstanding ≡ None → y.outstanding ≡ None → (if b then x else y).outstanding ≡ None
      still true x y here there = here
      still false x y here there = there

  client_takes : (w : World M) (v : LogWorld) → Shows w v → (from : Process) (c : ℕ) (l : List (MessageOf M)) → Shows (front_step machine w from (Client c) l) v
  client_takes w v r from c [] = r
  client_takes w v r from c (m ∷ rest) =
      let popped : World M = record w { links = without_front w.links from (Client c) } in
      let did : client.ClientResult (Transfer M) = client.client_step (w.clients c) from m in
      let silent = client_idle (w.clients c) from m (r.idle c) in
      client_did popped v (pop_outside machine plain w v r from c) c did silent.0 silent.1

  pub client_event : (w : World M) (v : LogWorld) → Shows w v → (from : Process) (c : ℕ) → Shows (happens machine w (Take from (Client c))) v
  client_event w v r from c = one_does w v (Take from (Client c)) r (λ e. client_takes w v r from c (w.links from (Client c)))

  pub lost_event : (w : World M) (v : LogWorld) → Shows w v → (from : Process) (c : ℕ) → Shows (happens machine w (Ignore from (Client c))) v
  lost_event w v r from c = one_does w v (Ignore from (Client c)) r (λ e. pop_outside machine plain w v r from c)
