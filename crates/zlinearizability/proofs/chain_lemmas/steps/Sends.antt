-- A server puts an entry of its own log to another: the order of the chain stays.
use Rattle.std.proofs.Common.{◌≡◌, ℕ, List, [], ◌∷◌, ◌==◌, append-nil, Option, Some, None, refl, sym, ap, ◌∙◌, subst, inl, inr}
use Rattle.zcalls.specs.declared.call.Entry.{Entry}
use Rattle.zcalls.specs.Lists.{ComesBefore}
use Rattle.zcalls.specs.Cached.{Plain}
use Rattle.zcalls.specs.Operation.{operation_of}
use Rattle.zcalls.proofs.Among.{test}
use Rattle.zprotocol.specs.declared.message.Message.TheVariants as message
use Rattle.zprotocol.specs.declared.process.Process.TheVariants.{Server}
use Rattle.zprotocol.specs.server.View.{Neighbour}
use Rattle.zprotocol.specs.master.View.{members}
use Rattle.zprotocol.specs.world.History.{HasBegun}
use Rattle.zlinearizability.specs.legal.Prefix.{IsPrefix, IsEntry}
use Rattle.zlinearizability.proofs.legal_lemmas.lists.Places.{before_second}
use Rattle.zlinearizability.proofs.legal_lemmas.lists.Prefixes.{prefix_of}
use Rattle.zlinearizability.specs.chain.Flow.{LogWorld, LogMessage, Log, log_with_message, flow, or_else, log_at, final_log_by, final_log, first_snapshot_by}
use Rattle.zlinearizability.specs.chain.Chain.{IsAhead, IsOpened, IsMember}
use Rattle.zlinearizability.specs.chain.Account.{Account}
use Rattle.zlinearizability.specs.chain.Sound.{IsSound, ChainIsOrdered, OrdersLead, AreDistinct}
use Rattle.zlinearizability.proofs.chain_lemmas.flow.Flow.{flow_more, flow_below, IsBelow, good_update}
use Rattle.zlinearizability.proofs.chain_lemmas.steps.Puts.{put_one, with_put, account_with_put, ahead_put, justified_put, first_log_put}
use Rattle.zlinearizability.proofs.chain_lemmas.places.Pairs.{settled_pred, pair_next}

-- where there is no log an entry makes none
no_log : (epoch k n : ℕ) (e : Entry) (log : List Entry) → log_with_message epoch None (message.Update k n e) ≡ Some log → ⊥
no_log epoch k n e log h = elim (test (epoch == k)) [
  | inl t ↦ let is : ◌≡◌ {A = Log} None (Some log) = rw t at h in cc
  | inr f ↦ let is : ◌≡◌ {A = Log} None (Some log) = rw f at h in cc
]

-- a server with a log could only have a longer one
pub below_some : (log : List Entry) (new : Log) → IsBelow (Some log) new → (more : List Entry) × (new ≡ Some more) × IsPrefix log more
below_some log None h = absurd h
below_some log (Some more) h = (more, refl, h)

-- who has a log would hold one in the end that extends it
pub final_log_of_log : (w : LogWorld) (x : ℕ) (log : List Entry) → log_at w x ≡ Some log
    → (more : List Entry) × (final_log w x ≡ Some more) × IsPrefix log more
final_log_of_log w x log is = below_some log (final_log w x) (by (w.servers x).pred)
  where
    by : (pred : Option Neighbour) → IsBelow (Some log) (final_log_by w x (log_at w x) pred)
    by None = subst (IsBelow (Some log)) (sym is) ([], sym (append-nil log))
    by (Some pred) =
        let below = flow_below pred.1 (log_at w x) (w.links (Server pred.0) (Server x)) in
        subst (λ l. IsBelow (or_else l (first_snapshot_by w x (Some pred))) (final_log_by w x (log_at w x) (Some pred))) is below

-- who is ahead of a log that another begins is ahead of that
pub ahead_less : (w : LogWorld) (a : ℕ) (log more : List Entry) → IsPrefix log more → IsAhead w a more → IsAhead w a log
ahead_less w a log more p h = record {
  own = h.own;
  holds = h.holds;
  begins = prefix_of log more h.own p h.begins;
  has_successor = h.has_successor;
  no_tail_order = h.no_tail_order;
}

module _ (w : LogWorld) (line : OrdersLead w) (apart : AreDistinct w) (ordered : ChainIsOrdered w)
    (x : ℕ) (x_in : IsMember w x) (own : List Entry) (holds : log_at w x ≡ Some own) (t k n : ℕ) (e : Entry) (entry : IsEntry own n e) where
  abbrev m : LogMessage
  m = message.Update k n e

  -- whoever is before the receiver is ahead of all that the sender holds
  ahead_of_own : (epoch : ℕ) → IsMember w t → (w.servers t).pred ≡ Some (x, epoch) → (a : ℕ) → ComesBefore a t (members w.master)
      → (log : List Entry) → final_log w t ≡ Some log → (new : List Entry) → IsPrefix new own → IsAhead w a new
  ahead_of_own epoch t_in pred a before log is new begins =
      let next = pair_next w apart x t epoch (settled_pred w line x t epoch x_in t_in pred) in
      let x_ahead = ordered x t next.before log is in
      let same : x_ahead.own ≡ own = (let e : Some x_ahead.own ≡ Some own = sym x_ahead.holds ∙ holds in cc e) in
      elim (next.others a before) [
        | inl is_x ↦ subst (λ b. IsAhead w b new) (sym is_x)
            (record { own = own; holds = holds; begins = begins; has_successor = x_ahead.has_successor; no_tail_order = x_ahead.no_tail_order })
        | inr further ↦
            let more = final_log_of_log w x own holds in
            ahead_less w a new more.0 (prefix_of new own more.0 begins more.2) (ordered a x further more.0 more.1)
      ]

  -- what the receiver could have had, and has more of now
  goes_on : (epoch : ℕ) → IsMember w t → (w.servers t).pred ≡ Some (x, epoch) → (a : ℕ) → ComesBefore a t (members w.master)
      → (old : Log) → final_log w t ≡ old → (log : List Entry) → log_with_message epoch old m ≡ Some log → IsAhead w a log
  goes_on epoch t_in pred a before None is log h = absurd (no_log epoch k n e log h)
  goes_on epoch t_in pred a before (Some old) is log h =
      let next = pair_next w apart x t epoch (settled_pred w line x t epoch x_in t_in pred) in
      let x_ahead = ordered x t next.before old is in
      let same : x_ahead.own ≡ own = (let e : Some x_ahead.own ≡ Some own = sym x_ahead.holds ∙ holds in cc e) in
      let good = good_update epoch k old own n e (subst (IsPrefix old) same x_ahead.begins) entry in
      let is_new : good.0 ≡ log = (let e : Some good.0 ≡ Some log = sym good.1 ∙ h in cc e) in
      ahead_of_own epoch t_in pred a before old is log (subst (λ l. IsPrefix l own) is_new good.2)

  sent_by : (a b : ℕ) → ComesBefore a b (members w.master) → (pred : Option Neighbour) → (w.servers b).pred ≡ pred
      → (log : List Entry) → final_log_by (with_put w x (Server t) m) b (log_at w b) pred ≡ Some log → IsAhead w a log
  sent_by a b before None is log h = ordered a b before log (ap (final_log_by w b (log_at w b)) is ∙ h)
  sent_by a b before (Some pred) is log h = elim (put_one w.links (Server x) (Server t) m (Server pred.0) (Server b)) [
    | inl e ↦ ordered a b before log (ap (final_log_by w b (log_at w b)) is ∙ sym (ap (flow pred.1 (log_at w b)) e) ∙ h)
    | inr p ↦
        let from : pred.0 ≡ x = cc (p.0) in
        let to : b ≡ t = cc (p.1) in
        let link = w.links (Server pred.0) (Server b) in
        let old : flow pred.1 (log_at w b) link ≡ final_log w b = sym (ap (final_log_by w b (log_at w b)) is) in
        let before' : ComesBefore a t (members w.master) = subst (λ c. ComesBefore a c (members w.master)) to before in
        let pred' : (w.servers t).pred ≡ Some (x, pred.1) = subst (λ c. (w.servers c).pred ≡ Some (x, pred.1)) to (is
        ∙ (λ i. Some (from i, pred.1))) in
        goes_on pred.1 (before_second a t (members w.master) before') pred' a before' (final_log w t) refl log
        (ap (λ c. log_with_message pred.1 (final_log w c) m) (sym to) ∙ ap (λ l. log_with_message pred.1 l m) (sym old)
        ∙ sym (flow_more pred.1 (log_at w b) link (m ∷ []))
        ∙ sym (ap (flow pred.1 (log_at w b)) p.2) ∙ h)
  ]

  -- the chain is in order with the entry put
  pub ordered_sent : ChainIsOrdered (with_put w x (Server t) m)
  ordered_sent a b before log h = ahead_put w x (Server t) m a log (sent_by a b before (w.servers b).pred refl log h)

-- an entry of the sender's own log, in an epoch that the receiver has taken: all stays sound
pub put_sent : {P : Type 0} (plain : Plain P) (reported : Account) (x : ℕ) → IsMember reported.world x → (own : List Entry) → log_at reported.world x ≡ Some own
    → (t k n : ℕ) (e : Entry) → IsEntry own n e → IsOpened reported.world t k → HasBegun reported.world.history (operation_of e)
    → IsSound plain reported → IsSound plain (account_with_put reported x (Server t) (message.Update k n e))
put_sent plain reported x x_in own holds t k n e entry opened begun s = record {
  distinct = s.distinct;
  used = s.used;
  blank = s.blank;
  live = s.live;
  line = s.line;
  successors = s.successors;
  epochs = s.epochs;
  tail_orders = s.tail_orders;
  ordered = ordered_sent reported.world s.line s.distinct s.ordered x x_in own holds t k n e entry;
  committed = λ y log member is. s.committed y log member (sym (first_log_put reported.world x (Server t) (message.Update k n e) (λ epoch. refl) y) ∙ is);
  tail = s.tail;
  sent = s.sent;
  begun = s.begun;
  committed_begun = s.committed_begun;
  justified = justified_put reported.world reported.items x (Server t) (message.Update k n e) (opened, begun) s.justified;
  acted = s.acted;
  replays = s.replays;
  rising = s.rising;
  in_time = s.in_time;
  answered = s.answered;
  once = s.once;
  numbered = s.numbered;
  waits = s.waits;
}
