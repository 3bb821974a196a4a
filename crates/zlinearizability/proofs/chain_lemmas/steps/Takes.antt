-- A server takes a message of another server: what it would hold after all that its predecessor put stays, and what it
-- shows first only grows.
use Rattle.std.specs.Prelude.{is_none}
use Rattle.std.proofs.Common.{◌≡◌, ℕ, ◌+◌, true, false, nat_lt, ◌==◌, List, [], ◌∷◌, ◌++◌, drop, length, Option, Some}
use Rattle.std.proofs.Common.{None, refl, sym, ap, ◌∙◌, subst, inl, inr, eqb-true, eq-eqb}
use Rattle.zcalls.specs.declared.call.Entry.{Entry}
use Rattle.zcalls.specs.Lists.{ComesBefore}
use Rattle.zcalls.specs.Cached.{Plain}
use Rattle.zcalls.proofs.Among.{test}
use Rattle.zprotocol.specs.declared.limits.TheConstants.{MAX_LOG_NUMBER}
use Rattle.zprotocol.specs.declared.message.Message.TheVariants as message
use Rattle.zprotocol.specs.declared.process.Process.{Process}
use Rattle.zprotocol.specs.declared.process.Process.TheVariants.{Master, Server}
use Rattle.zprotocol.specs.server.View.{ServerView, Neighbour, Transfer}
use Rattle.zprotocol.specs.server.Table.{ServerResult, is_neighbour, accept_result, update_row, ack_row, snapshot_row, server_step}
use Rattle.zprotocol.specs.server.support.Cases.{IsAccepted, IsRow, Processes, Forwards, Ignores, Submits, Updates}
use Rattle.zprotocol.specs.server.support.Cases.{Asks, Acknowledges, Shows, Turns, Follows, Leads, Ends}
use Rattle.zprotocol.proofs.server_lemmas.Fields.{view_of}
use Rattle.zprotocol.proofs.server_lemmas.Cases.{server_case}
use Rattle.zprotocol.specs.master.View.{members}
use Rattle.zprotocol.specs.world.Links.{Links, is_same, without_front}
use Rattle.zprotocol.specs.world.World.{at}
use Rattle.zlinearizability.specs.legal.Prefix.{IsPrefix}
use Rattle.zlinearizability.proofs.legal_lemmas.lists.Prefixes.{prefix_of}
use Rattle.zlinearizability.specs.chain.Flow.{log_machine, LogWorld, LogMessage, Log, log_with_message, flow, first_snapshot}
use Rattle.zlinearizability.specs.chain.Flow.{or_else, log_at, final_log_by, final_log, first_snapshot_by, first_log, length_of}
use Rattle.zlinearizability.specs.chain.Last.{HasExactLast}
use Rattle.zlinearizability.specs.chain.Chain.{queue, IsAhead, IsMember, HasNoTailOrder}
use Rattle.zlinearizability.specs.chain.Sound.{ChainIsOrdered, AllShowCommitted}
use Rattle.zprotocol.proofs.world_lemmas.Processes.{same_itself}
use Rattle.zlinearizability.proofs.chain_lemmas.links.Links.{at_same, at_other}

module _ {P : Type 0} (plain : Plain P) where
  -- an entry is accepted
  accept_machine : (machine : Log) (last : ℕ) (sent : List (ℕ × Entry)) (pred succ : Option Neighbour) (log : List Entry) (n : ℕ) (e : Entry)
      → (accept_result (log_machine plain) (view_of machine last sent pred succ) log n e).0.machine ≡ Some (log ++ e ∷ [])
  unfolding accept_result
  accept_machine machine last sent pred None log n e = refl
  accept_machine machine last sent pred (Some succ) log n e = refl

  -- what a message of the predecessor makes of the log is what flows
  update_flows : (machine : Log) (sent : List (ℕ × Entry)) (p k : ℕ) (succ : Option Neighbour) (epoch n : ℕ) (e : Entry)
      → (update_row (log_machine plain) (view_of machine (length_of machine) sent (Some (p, k)) succ) p epoch n e).0.machine
      ≡ log_with_message k machine (message.Update epoch n e)
  unfolding update_row
  update_flows None sent p k succ epoch n e = elim (test (k == epoch)) [ inl t ↦ rw t refl | inr f ↦ rw f refl ]
  update_flows (Some log) sent p k succ epoch n e =
      let own : (p == p) ≡ true = eq-eqb p p refl in
      rw own (elim (test (k == epoch)) [
        | inl t ↦ rw t (elim (test (n == length log + 1)) [
          | inl s ↦ rw s (elim (test (nat_lt (length log) MAX_LOG_NUMBER)) [
            | inl r ↦ rw r (accept_machine (Some log) (length log) sent (Some (p, k)) succ log n e)
            | inr f ↦ rw f refl
          ])
          | inr f ↦ rw f refl
        ])
        | inr f ↦ rw f refl
      ])

  snapshot_flows : (machine : Log) (last : ℕ) (sent : List (ℕ × Entry)) (p k : ℕ) (succ : Option Neighbour) (epoch : ℕ)
      (transfer : Transfer (List Entry))
      → (snapshot_row (view_of machine last sent (Some (p, k)) succ) p epoch transfer).0.machine
      ≡ log_with_message k machine (message.Snapshot epoch transfer)
  unfolding snapshot_row
  snapshot_flows (Some log) last sent p k succ epoch transfer = elim (test (k == epoch)) [ inl t ↦ rw t refl | inr f ↦ rw f refl ]
  snapshot_flows None last sent p k succ epoch transfer =
      let own : (p == p) ≡ true = eq-eqb p p refl in
      rw own (elim (test (k == epoch)) [ inl t ↦ rw t refl | inr f ↦ rw f refl ])

  ack_machine : (v : ServerView (List Entry)) (t epoch n : ℕ) → (ack_row v t epoch n).0.machine ≡ v.machine
  unfolding ack_row
  ack_machine v t epoch n = elim (test (is_neighbour v.succ t epoch)) [ inl y ↦ rw y refl | inr f ↦ rw f refl ]

  flows_by : (machine : Log) (sent : List (ℕ × Entry)) (p k : ℕ) (succ : Option Neighbour) (m : LogMessage)
      → (server_step (log_machine plain) (view_of machine (length_of machine) sent (Some (p, k)) succ) (Server p) m).0.machine
      ≡ log_with_message k machine m
  unfolding server_step
  flows_by machine sent p k succ (message.Update epoch n e) = update_flows machine sent p k succ epoch n e
  flows_by machine sent p k succ (message.Snapshot epoch transfer) = snapshot_flows machine (length_of machine) sent p k succ epoch transfer
  flows_by machine sent p k succ (message.Ack epoch n) = ack_machine (view_of machine (length_of machine) sent (Some (p, k)) succ) p epoch n
  flows_by machine sent p k succ m = refl

  -- the predecessor's message makes of the log what flows
  pub takes_flows : (v : ServerView (List Entry)) (p k : ℕ) (m : LogMessage) → HasExactLast v → v.pred ≡ Some (p, k)
      → (server_step (log_machine plain) v (Server p) m).0.machine ≡ log_with_message k v.machine m
  takes_flows v p k m exact pred =
      ap (λ (u : ServerView (List Entry)). (server_step (log_machine plain) u (Server p) m).0.machine)
      (λ i. record v { last = exact i; pred = pred i })
      ∙ flows_by v.machine v.sent p k v.succ m

  -- a message of another server leaves the log
  pub takes_stays : (v : ServerView (List Entry)) (p : ℕ) (m : LogMessage) → ((k : ℕ) → v.pred ≡ Some (p, k) → ⊥)
      → (server_step (log_machine plain) v (Server p) m).0.machine ≡ v.machine
  takes_stays v p m other = by (Server p) m (server_step (log_machine plain) v (Server p) m) (server_case (log_machine plain) v (Server p) m) refl
    where
      by : (from : Process) (m : LogMessage) (r : ServerResult (List Entry)) → IsRow (log_machine plain) v from m r
          → from ≡ Server p → r.0.machine ≡ v.machine
      by from m r (Ignores from' m') is = refl
      by from m r (Submits c number update log r' has head room did) is = cc
      by from m r (Updates q epoch n e log r' has pred next room did) is =
          let same : q ≡ p = cc is in absurd (other epoch (subst (λ x. v.pred ≡ Some (x, epoch)) same pred))
      by from m r (Asks c number query log has tail) is = refl
      by from m r (Acknowledges t epoch n succ) is = refl
      by from m r (Shows q epoch transfer none pred) is =
          let same : q ≡ p = cc is in absurd (other epoch (subst (λ x. v.pred ≡ Some (x, epoch)) same pred))
      by from m r (Turns epoch q) is = refl
      by from m r (Follows epoch t last log has) is = refl
      by from m r (Leads epoch) is = refl
      by from m r (Ends epoch) is = refl

  accepted_pred : (v : ServerView (List Entry)) (log : List Entry) (n : ℕ) (e : Entry) (r : ServerResult (List Entry))
      → IsAccepted (log_machine plain) v log n e r → (r.0.pred ≡ v.pred) × (r.0.succ ≡ v.succ)
  accepted_pred v log n e r (Processes ends) = (refl, refl)
  accepted_pred v log n e r (Forwards succ is) = (refl, refl)

  -- only the master changes neighbours
  pub neighbours_stay : (v : ServerView (List Entry)) (from : Process) (m : LogMessage) (r : ServerResult (List Entry))
      → IsRow (log_machine plain) v from m r
      → is_same Master from ≡ false → (r.0.pred ≡ v.pred) × (r.0.succ ≡ v.succ)
  neighbours_stay v from m r (Ignores from' m') f = (refl, refl)
  neighbours_stay v from m r (Submits c number update log r' has head room did) f = accepted_pred v log (v.last + 1)
      (record { client = c; number = number; update = update }) r did
  neighbours_stay v from m r (Updates q epoch n e log r' has pred next room did) f = accepted_pred v log n e r did
  neighbours_stay v from m r (Asks c number query log has tail) f = (refl, refl)
  neighbours_stay v from m r (Acknowledges t epoch n succ) f = (refl, refl)
  neighbours_stay v from m r (Shows q epoch transfer none pred) f = (refl, refl)
  neighbours_stay v from m r (Turns epoch q) f = cc
  neighbours_stay v from m r (Follows epoch t last log has) f = cc
  neighbours_stay v from m r (Leads epoch) f = cc
  neighbours_stay v from m r (Ends epoch) f = cc

-- links after a front was taken
pub front_here : {M : Type 0} (links : Links M) (from to : Process) → without_front links from to from to ≡ drop 1 (links from to)
front_here links from to = rw (same_itself from) (rw (same_itself to) refl)

-- other links stay, by their sender
pub front_not_from : {M : Type 0} (links : Links M) (from to p q : Process) → is_same p from ≡ false → without_front links from to p q ≡ links p q
front_not_from links from to p q f = rw f refl

-- or by their receiver
pub front_not_to : {M : Type 0} (links : Links M) (from to p q : Process) → is_same q to ≡ false → without_front links from to p q ≡ links p q
front_not_to links from to p q f = elim (test (is_same p from)) [ inl t ↦ rw t (rw f refl) | inr g ↦ rw g refl ]

-- the world after a server took a message and has this view
abbrev pub with_view : LogWorld → Process → ℕ → ServerView (List Entry) → LogWorld
with_view w from y v = record w { servers = at y v w.servers; links = without_front w.links from (Server y) }

module _ (w : LogWorld) (from : Process) (y : ℕ) (v : ServerView (List Entry)) where
  abbrev w1 : LogWorld
  w1 = with_view w from y v

  -- at other servers all stays
  final_log_elsewhere_by : (z : ℕ) → (z == y) ≡ false → (log : Log) (pred : Option Neighbour) → final_log_by w1 z log pred ≡ final_log_by w z log pred
  final_log_elsewhere_by z f log None = refl
  final_log_elsewhere_by z f log (Some pred) = ap (flow pred.1 log) (front_not_to w.links from (Server y) (Server pred.0) (Server z) f)

  -- what other servers would hold in the end
  pub final_log_elsewhere : (z : ℕ) → (z == y) ≡ false → final_log w1 z ≡ final_log w z
  final_log_elsewhere z f =
      ap (λ (u : ServerView (List Entry)). final_log_by w1 z u.machine u.pred) (at_other y v w.servers z f)
      ∙ final_log_elsewhere_by z f (w.servers z).machine (w.servers z).pred

  first_elsewhere_by : (z : ℕ) → (z == y) ≡ false → (pred : Option Neighbour) → first_snapshot_by w1 z pred ≡ first_snapshot_by w z pred
  first_elsewhere_by z f None = refl
  first_elsewhere_by z f (Some pred) = ap (first_snapshot pred.1) (front_not_to w.links from (Server y) (Server pred.0) (Server z) f)

  -- and what they show first
  pub first_log_elsewhere : (z : ℕ) → (z == y) ≡ false → first_log w1 z ≡ first_log w z
  first_log_elsewhere z f =
      ap (λ (u : ServerView (List Entry)). or_else u.machine (first_snapshot_by w1 z u.pred)) (at_other y v w.servers z f)
      ∙ ap (or_else (w.servers z).machine) (first_elsewhere_by z f (w.servers z).pred)

  -- the order of the chain stays where logs and successors do, or grow
  module _ (not_master : is_same Master from ≡ false)
      (grows : (log : List Entry) → log_at w y ≡ Some log → (new : List Entry) × (v.machine ≡ Some new) × IsPrefix log new)
      (same_succ : v.succ ≡ (w.servers y).succ) where
    same_queue : (z : ℕ) → queue w1 z ≡ queue w z
    same_queue z = front_not_from w.links from (Server y) Master (Server z) not_master

    ahead_view : (x : ℕ) (log : List Entry) → IsAhead w x log → IsAhead w1 x log
    ahead_view x log h = elim (test (x == y)) [
      | inl t ↦ here (eqb-true _ _ t)
      | inr f ↦ record {
        own = h.own;
        holds = ap (λ (u : ServerView (List Entry)). u.machine) (at_other y v w.servers x f) ∙ h.holds;
        begins = h.begins;
        has_successor = ap (λ (u : ServerView (List Entry)). is_none u.succ) (at_other y v w.servers x f) ∙ h.has_successor;
        no_tail_order = subst HasNoTailOrder (sym (same_queue x)) h.no_tail_order;
      }
    ]
      where
        here : x ≡ y → IsAhead w1 x log
        here e =
            let new = grows h.own (subst (λ z. log_at w z ≡ Some h.own) e h.holds) in
            let view : w1.servers x ≡ v = subst (λ z. w1.servers z ≡ v) (sym e) (at_same y v w.servers) in
            record {
              own = new.0;
              holds = ap (λ (u : ServerView (List Entry)). u.machine) view ∙ new.1;
              begins = prefix_of log h.own new.0 h.begins new.2;
              has_successor = ap (λ (u : ServerView (List Entry)). is_none u.succ) view ∙ ap is_none same_succ
                  ∙ subst (λ z. is_none (w.servers z).succ ≡ false) e h.has_successor;
              no_tail_order = subst HasNoTailOrder (sym (same_queue x)) h.no_tail_order;
            }

    -- so the chain is in order where those before the taker are ahead of it
    pub ordered_view : ((x : ℕ) → ComesBefore x y (members w.master) → (log : List Entry) → final_log w1 y ≡ Some log → IsAhead w x log)
        → ChainIsOrdered w → ChainIsOrdered w1
    ordered_view own ordered a b before log is = elim (test (b == y)) [
      | inl t ↦ let e : b ≡ y = eqb-true _ _ t in
          ahead_view a log (own a (subst (λ c. ComesBefore a c (members w.master)) e before) log (subst (λ c. final_log w1 c ≡ Some log) e is))
      | inr f ↦ ahead_view a log (ordered a b before log (sym (final_log_elsewhere b f) ∙ is))
    ]

  -- what is committed begins what each shows, where what the taker shows only grows
  pub committed_view : (done : List Entry) → ((log : List Entry) → first_log w1 y ≡ Some log
      → (old : List Entry) × (first_log w y ≡ Some old) × IsPrefix old log)
      → AllShowCommitted w done → AllShowCommitted w1 done
  committed_view done own shown s log member is = elim (test (s == y)) [
    | inl t ↦ let e : s ≡ y = eqb-true _ _ t in
        let old = own log (subst (λ c. first_log w1 c ≡ Some log) e is) in
        prefix_of done old.0 log (shown y old.0 (subst (IsMember w) e member) old.1) old.2
    | inr f ↦ shown s log member (sym (first_log_elsewhere s f) ∙ is)
  ]
