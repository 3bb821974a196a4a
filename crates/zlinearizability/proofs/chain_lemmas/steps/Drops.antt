-- A front is gone that no server reads: one of the master's, or a request. Nothing else changes.
use Rattle.std.specs.Prelude.{◌&&◌, not}
use Rattle.std.proofs.Common.{◌≡◌, ℕ, Bool, true, false, List, [], ◌∷◌, drop, Option, Some, None, refl, sym, ap, ◌∙◌, subst, inl, inr}
use Rattle.zcalls.specs.declared.call.Entry.{Entry}
use Rattle.zcalls.specs.Cached.{Plain}
use Rattle.zcalls.proofs.Among.{test}
use Rattle.zprotocol.specs.declared.message.Message.TheVariants as message
use Rattle.zprotocol.specs.declared.process.Process.{Process}
use Rattle.zprotocol.specs.declared.process.Process.TheVariants.{Master, Server}
use Rattle.zprotocol.specs.server.View.{Neighbour}
use Rattle.zprotocol.specs.declared.world.event.Event.TheVariants.{Ignore}
use Rattle.zprotocol.specs.world.Links.{is_same, without_front}
use Rattle.zprotocol.specs.world.Events.{front_is, is_request, has_failed}
use Rattle.zlinearizability.proofs.legal_lemmas.lists.Tests.{left_of, right_of}
use Rattle.zlinearizability.specs.chain.Flow.{LogWorld, LogMessage, Log, flow, first_snapshot, or_else, log_at, final_log_by, first_snapshot_by}
use Rattle.zlinearizability.specs.chain.Chain.{IsAhead, IsOpened, Place, IsPast, LeadsTo, is_fresh, HasDistinctEpochs, HasNoTailOrderBehind}
use Rattle.zlinearizability.specs.chain.Account.{Account}
use Rattle.zlinearizability.specs.chain.Sound.{IsSound}
use Rattle.zlinearizability.specs.chain.Events.{KeepsSoundOver}
use Rattle.zprotocol.proofs.world_lemmas.Processes.{same_process}
use Rattle.zlinearizability.proofs.chain_lemmas.links.Links.{front_among}
use Rattle.zlinearizability.proofs.chain_lemmas.links.LaterWorlds.{justified_later}
use Rattle.zlinearizability.proofs.chain_lemmas.steps.Takes.{front_not_to}
use Rattle.zlinearizability.proofs.chain_lemmas.Events.{where_enabled, quiet_event}

-- what holds of a link holds without its front, where that is a request
abbrev DropsRequest : (List LogMessage → Type 0) → Type 0
DropsRequest Q = (m : LogMessage) (l : List LogMessage) → is_request m ≡ true → Q (m ∷ l) → Q l

-- each fact that is said of a link into a server stays
abbrev pub IsKept : LogWorld → Process → Process → Type 1
IsKept w from to = (Q : List LogMessage → Type 0) → ((m : LogMessage) (l : List LogMessage) → is_request m ≡ true → Q (m ∷ l) → Q l)
    → (p : Process) (z : ℕ) → Q (w.links p (Server z)) → Q (without_front w.links from to p (Server z))

-- where the front was on a link to no server
pub kept_not_to : (w : LogWorld) (from to : Process) → ((z : ℕ) → is_same (Server z) to ≡ false) → IsKept w from to
kept_not_to w from to apart Q drops p z h = subst Q (sym (front_not_to w.links from to p (Server z) (apart z))) h

flow_drops : (k : ℕ) (log : Log) (m : LogMessage) (l : List LogMessage) → is_request m ≡ true → flow k log (m ∷ l) ≡ flow k log l
flow_drops k log (message.Submit number update) l is = refl
flow_drops k log (message.Query number query) l is = refl
flow_drops k log m l is = cc

first_drops : (k : ℕ) (m : LogMessage) (l : List LogMessage) → is_request m ≡ true → first_snapshot k (m ∷ l) ≡ first_snapshot k l
first_drops k (message.Submit number update) l is = refl
first_drops k (message.Query number query) l is = refl
first_drops k m l is = cc

leads_drops : (Past : Place → Type 0) (fresh : Bool) (pred target : Place) → DropsRequest (λ q. LeadsTo Past fresh pred q target)
leads_drops Past fresh pred target (message.Submit number update) l is h = h
leads_drops Past fresh pred target (message.Query number query) l is h = h
leads_drops Past fresh pred target m l is h = cc is

module _ {P : Type 0} (plain : Plain P) (t : Account) (s : IsSound plain t) (from to : Process) (kept : IsKept t.world from to) where
  abbrev w : LogWorld
  w = t.world

  abbrev dropped : LogWorld
  dropped = record t.world { links = without_front t.world.links from to }

  same_final_log_by : (z : ℕ) (log : Log) (pred : Option Neighbour) → final_log_by dropped z log pred ≡ final_log_by w z log pred
  same_final_log_by z log None = refl
  same_final_log_by z log (Some pred) =
      kept (λ l. flow pred.1 log l ≡ flow pred.1 log (w.links (Server pred.0) (Server z)))
      (λ m l is e. sym (flow_drops pred.1 log m l is) ∙ e) (Server pred.0) z refl

  same_first : (z : ℕ) (pred : Option Neighbour) → first_snapshot_by dropped z pred ≡ first_snapshot_by w z pred
  same_first z None = refl
  same_first z (Some pred) =
      kept (λ l. first_snapshot pred.1 l ≡ first_snapshot pred.1 (w.links (Server pred.0) (Server z)))
      (λ m l is e. sym (first_drops pred.1 m l is) ∙ e) (Server pred.0) z refl

  ahead_dropped : (x : ℕ) (log : List Entry) → IsAhead w x log → IsAhead dropped x log
  ahead_dropped x log h = record {
    own = h.own;
    holds = h.holds;
    begins = h.begins;
    has_successor = h.has_successor;
    no_tail_order = λ epoch a. h.no_tail_order epoch (front_among w.links from to Master (Server x) (message.BecomeTail epoch) a);
  }

  opened : (z k : ℕ) → IsOpened w z k → IsOpened dropped z k
  opened z k h = (h.0, λ p a. h.1 p (front_among w.links from to Master (Server z) (message.NewPred k p) a))

  -- all facts hold without the front
  pub dropped_sound : IsSound plain (record t { world = dropped })
  dropped_sound = record {
    distinct = s.distinct;
    used = s.used;
    blank = λ z unused. ((s.blank z unused).0, kept (λ l. l ≡ []) (λ m l is e. absurd (cc e)) Master z (s.blank z unused).1);
    live = s.live;
    line = λ z place is. kept (λ q. LeadsTo (IsPast w) (is_fresh w z) (w.servers z).pred q place)
        (leads_drops (IsPast w) (is_fresh w z) (w.servers z).pred place) Master z (s.line z place is);
    successors = λ x z k is. opened z k (s.successors x z k is);
    epochs = λ z. kept (HasDistinctEpochs w.master.epoch) (λ m l is h. h.1) Master z (s.epochs z);
    tail_orders = λ z. kept (HasNoTailOrderBehind w z) (λ m l is h. h.1) Master z (s.tail_orders z);
    ordered = λ x y before log is. ahead_dropped x log (s.ordered x y before log (sym (same_final_log_by y (log_at w y) (w.servers y).pred) ∙ is));
    committed = λ z log member is. s.committed z log member (sym (ap (or_else (log_at w z)) (same_first z (w.servers z).pred)) ∙ is);
    tail = s.tail;
    sent = s.sent;
    begun = s.begun;
    committed_begun = s.committed_begun;
    justified = λ p q m a. justified_later w dropped t.items t.items
        (record { begun = λ o h. h; given = λ i h. h; opened = opened; failed = λ z h. h }) p q m
        (s.justified p q m (front_among w.links from to p q m a));
    acted = s.acted;
    replays = s.replays;
    rising = s.rising;
    in_time = s.in_time;
    answered = s.answered;
    once = s.once;
    numbered = s.numbered;
    waits = s.waits;
  }

-- a request is the front
kept_request : (w : LogWorld) (from to : Process) → front_is is_request (w.links from to) ≡ true → IsKept w from to
kept_request w from to is Q drops p z h = elim (test (is_same p from && is_same (Server z) to)) [
  | inl e ↦ rw e (gone (w.links p (Server z)) (subst (λ x. front_is is_request (w.links x (Server z)) ≡ true)
      (sym (same_process p from (left_of (is_same p from) (is_same (Server z) to) e)))
      (subst (λ x. front_is is_request (w.links from x) ≡ true)
      (sym (same_process (Server z) to (right_of (is_same p from) (is_same (Server z) to) e))) is)) h)
  | inr f ↦ rw f h
]
  where
    gone : (l : List LogMessage) → front_is is_request l ≡ true → Q l → Q (drop 1 l)
    gone [] is h = h
    gone (m ∷ l) is h = drops m l is h

-- the event Ignore
pub requests_are_lost : {P : Type 0} (plain : Plain P) (from to : Process) → KeepsSoundOver plain (Ignore from to)
requests_are_lost plain from to t lasts s = where_enabled plain t (Ignore from to) s (λ e. quiet_event plain t _
    (dropped_sound plain t s from to
    (kept_request t.world from to (left_of (front_is is_request (t.world.links from to)) (not (has_failed t.world to)) e))))
