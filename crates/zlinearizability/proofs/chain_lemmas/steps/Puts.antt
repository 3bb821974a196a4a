-- A server puts one message: what no one reads changes nothing, and an entry of its own log keeps
-- the order of the chain.
use Rattle.std.proofs.Common.{◌≡◌, ◌⊎◌, ℕ, List, [], ◌∷◌, ◌++◌, Option, Some, None, refl, sym, ap, ◌∙◌, subst, inl, inr, append-nil}
use Rattle.zcalls.specs.declared.call.Entry.{Entry}
use Rattle.zcalls.specs.Cached.{Plain}
use Rattle.zcalls.proofs.Among.{test}
use Rattle.zprotocol.specs.declared.message.Message.TheVariants as message
use Rattle.zprotocol.specs.declared.process.Process.{Process}
use Rattle.zprotocol.specs.declared.process.Process.TheVariants.{Server}
use Rattle.zprotocol.specs.server.View.{MessageOf, Post, Neighbour}
use Rattle.zprotocol.specs.world.Links.{Links, is_same, put}
use Rattle.zlinearizability.specs.legal.Items.{Item}
use Rattle.zlinearizability.specs.chain.Flow.{LogWorld, LogMessage, Log, flow, snapshot_of, first_snapshot, or_else, log_at}
use Rattle.zlinearizability.specs.chain.Flow.{final_log_by, final_log, first_snapshot_by, first_log}
use Rattle.zlinearizability.specs.chain.Chain.{IsAhead}
use Rattle.zlinearizability.specs.chain.Messages.{IsJustified}
use Rattle.zlinearizability.specs.chain.Account.{Account}
use Rattle.zlinearizability.specs.chain.Sound.{IsSound, ChainIsOrdered, AllAreJustified}
use Rattle.zlinearizability.proofs.chain_lemmas.flow.Flow.{flow_more, first_more, IsForeign}
use Rattle.zprotocol.proofs.world_lemmas.Processes.{same_process}
use Rattle.zlinearizability.proofs.chain_lemmas.links.Links.{put_among}

-- a link after one message is put: as it was, or with that message at its end
pub put_one : {M : Type 0} (links : Links M) (sender receiver : Process) (m : MessageOf M) (from to : Process)
    → (put links sender ((receiver, m) ∷ []) from to ≡ links from to)
    ⊎ ((from ≡ sender) × (to ≡ receiver) × (put links sender ((receiver, m) ∷ []) from to ≡ links from to ++ m ∷ []))
put_one links sender receiver m from to = elim (test (is_same from sender)) [
  | inl t ↦ elim (test (is_same to receiver)) [
    | inl s ↦ inr (same_process from sender t, same_process to receiver s, rw t (rw s refl))
    | inr f ↦ inl (rw t (rw f (append-nil (links from to))))
  ]
  | inr f ↦ inl (rw f refl)
]

-- the world after a server put one message
abbrev pub with_put : LogWorld → ℕ → Process → LogMessage → LogWorld
with_put w x to m = record w { links = put w.links (Server x) ((to, m) ∷ []) }

-- the account with it
abbrev pub account_with_put : Account → ℕ → Process → LogMessage → Account
account_with_put t x to m = record t { world = with_put t.world x to m }

or_else_none : (log : Log) → or_else log None ≡ log
or_else_none None = refl
or_else_none (Some log) = refl

-- who is ahead stays so
pub ahead_put : (w : LogWorld) (x : ℕ) (to : Process) (m : LogMessage) (z : ℕ) (log : List Entry) → IsAhead w z log
    → IsAhead (with_put w x to m) z log
ahead_put w x to m z log h = record {
  own = h.own;
  holds = h.holds;
  begins = h.begins;
  has_successor = h.has_successor;
  no_tail_order = h.no_tail_order;
}

-- what was justified stays so, and so is what is put
pub justified_put : (w : LogWorld) (items : List Item) (x : ℕ) (to : Process) (m : LogMessage) → IsJustified w items (Server x) to m
    → AllAreJustified w items w.links → AllAreJustified (with_put w x to m) items (with_put w x to m).links
justified_put w items x to m justified old from to' m' a = elim (put_among w.links (Server x) ((to, m) ∷ []) from to' m' a) [
  | inl b ↦ old from to' m' b
  | inr new ↦ elim (new.1) [
    | inl e ↦ subst (λ p. IsJustified w items p to' m') (sym new.0)
        (subst (λ (q : Post (List Entry)). IsJustified w items (Server x) q.0 q.1) e justified)
    | inr f ↦ absurd f
  ]
]

-- what is no whole log shows nothing new
module _ (w : LogWorld) (x : ℕ) (to : Process) (m : LogMessage) (no_snapshot : (k : ℕ) → snapshot_of k m ≡ None) where
  first_put_by : (y : ℕ) (pred : Option Neighbour) → first_snapshot_by (with_put w x to m) y pred ≡ first_snapshot_by w y pred
  first_put_by y None = refl
  first_put_by y (Some pred) = elim (put_one w.links (Server x) to m (Server pred.0) (Server y)) [
    | inl e ↦ ap (first_snapshot pred.1) e
    | inr p ↦ ap (first_snapshot pred.1) p.2 ∙ first_more pred.1 (w.links (Server pred.0) (Server y)) (m ∷ [])
        ∙ ap (λ l. or_else (first_snapshot pred.1 (w.links (Server pred.0) (Server y))) (or_else l None)) (no_snapshot pred.1)
        ∙ or_else_none (first_snapshot pred.1 (w.links (Server pred.0) (Server y)))
  ]

  -- each server shows first what it did
  pub first_log_put : (y : ℕ) → first_log (with_put w x to m) y ≡ first_log w y
  first_log_put y = ap (or_else (log_at w y)) (first_put_by y (w.servers y).pred)

module _ (w : LogWorld) (x : ℕ) (to : Process) (m : LogMessage) (foreign : (k : ℕ) → IsForeign k m) where
  final_log_unread_by : (y : ℕ) (log : Log) (pred : Option Neighbour) → final_log_by (with_put w x to m) y log pred ≡ final_log_by w y log pred
  final_log_unread_by y log None = refl
  final_log_unread_by y log (Some pred) = elim (put_one w.links (Server x) to m (Server pred.0) (Server y)) [
    | inl e ↦ ap (flow pred.1 log) e
    | inr p ↦ ap (flow pred.1 log) p.2 ∙ flow_more pred.1 log (w.links (Server pred.0) (Server y)) (m ∷ [])
        ∙ (foreign pred.1).0 (flow pred.1 log (w.links (Server pred.0) (Server y)))
  ]

  -- each server would hold in the end what it did
  pub final_log_unread : (y : ℕ) → final_log (with_put w x to m) y ≡ final_log w y
  final_log_unread y = final_log_unread_by y (log_at w y) (w.servers y).pred

  -- so the chain is in order
  pub ordered_unread : ChainIsOrdered w → ChainIsOrdered (with_put w x to m)
  ordered_unread h a b before log is = ahead_put w x to m a log (h a b before log (sym (final_log_unread b) ∙ is))

-- what no one reads (Ack, Joined, Have, Gone, Answer): all stays as it is
pub put_unread : {P : Type 0} (plain : Plain P) (t : Account) (x : ℕ) (to : Process) (m : LogMessage) → ((k : ℕ) → IsForeign k m)
    → IsJustified t.world t.items (Server x) to m → IsSound plain t → IsSound plain (account_with_put t x to m)
put_unread plain t x to m foreign justified s = record {
  distinct = s.distinct;
  used = s.used;
  blank = s.blank;
  live = s.live;
  line = s.line;
  successors = s.successors;
  epochs = s.epochs;
  tail_orders = s.tail_orders;
  ordered = ordered_unread t.world x to m foreign s.ordered;
  committed = λ y log member is. s.committed y log member (sym (first_log_put t.world x to m (λ k. (foreign k).1) y) ∙ is);
  tail = s.tail;
  sent = s.sent;
  begun = s.begun;
  committed_begun = s.committed_begun;
  justified = justified_put t.world t.items x to m justified s.justified;
  acted = s.acted;
  replays = s.replays;
  rising = s.rising;
  in_time = s.in_time;
  answered = s.answered;
  once = s.once;
  numbered = s.numbered;
  waits = s.waits;
}

-- Ack, Joined, Have, Gone and Answer are such messages.
abbrev pub IsUnread : LogMessage → Type 0
IsUnread (message.Answer number reply) = Unit {0}
IsUnread (message.Ack epoch n) = Unit {0}
IsUnread (message.Have epoch last) = Unit {0}
IsUnread (message.Joined epoch) = Unit {0}
IsUnread message.Gone = Unit {0}
IsUnread other = ⊥

-- they count in no epoch
pub unread_foreign : (m : LogMessage) → IsUnread m → (k : ℕ) → IsForeign k m
unread_foreign (message.Answer number reply) h k = (λ log. refl, refl)
unread_foreign (message.Ack epoch n) h k = (λ log. refl, refl)
unread_foreign (message.Have epoch last) h k = (λ log. refl, refl)
unread_foreign (message.Joined epoch) h k = (λ log. refl, refl)
unread_foreign message.Gone h k = (λ log. refl, refl)
unread_foreign m h k = absurd h
