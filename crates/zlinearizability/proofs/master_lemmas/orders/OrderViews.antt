-- A server took a message of the master, and has a new view: what has to be shown of it so that all is sound.
use Rattle.std.specs.Prelude.{◌&&◌, is_none}
use Rattle.std.proofs.Common.{◌≡◌, ℕ, false, ◌==◌, List, [], ◌∷◌, drop, Some, sym, ap, ◌∙◌, subst, inl, inr, eqb-true}
use Rattle.zcalls.specs.declared.call.Entry.{Entry}
use Rattle.zcalls.specs.Lists.{Among}
use Rattle.zcalls.specs.Cached.{Plain}
use Rattle.zcalls.proofs.Among.{test}
use Rattle.zprotocol.specs.declared.message.Message.TheVariants as message
use Rattle.zprotocol.specs.declared.process.Process.TheVariants.{Master, Server}
use Rattle.zprotocol.specs.server.View.{ServerView, spare}
use Rattle.zlinearizability.specs.legal.Prefix.{IsEntry}
use Rattle.zlinearizability.specs.legal.Items.{Item, AllBegun}
use Rattle.zlinearizability.specs.chain.Flow.{LogWorld, LogMessage}
use Rattle.zlinearizability.specs.chain.Chain.{queue, IsOpened, IsUsed, IsPast, Place, place_in_chain, LeadsTo, HasDistinctEpochs, HasNoTailOrderBehind}
use Rattle.zlinearizability.specs.chain.Account.{Account}
use Rattle.zlinearizability.specs.chain.Sound.{IsSound, ChainIsOrdered}
use Rattle.zlinearizability.proofs.chain_lemmas.links.Links.{at_same, at_other, front_among}
use Rattle.zlinearizability.proofs.chain_lemmas.links.LaterWorlds.{justified_later}
use Rattle.zlinearizability.proofs.chain_lemmas.steps.Takes.{with_view, front_here, front_not_to}
use Rattle.zlinearizability.proofs.chain_lemmas.steps.Views.{AreGoodLists, each_at}

-- what is shown of the new view, where this is left in the queue
pub record IsGoodOrder (w : LogWorld) (y : ℕ) (v : ServerView (List Entry)) (rest : List LogMessage) : Type 0 where
  -- its predecessor leads on
  pub line : (place : Place) → place_in_chain w y ≡ Some place → LeadsTo (IsPast w) (is_none v.machine && is_none v.pred) v.pred rest place
  -- its successor has taken the epoch
  pub successor : (z k : ℕ) → v.succ ≡ Some (z, k) → IsOpened w z k
  -- the chain is in order
  pub ordered : ChainIsOrdered (with_view w Master y v)
  -- Sent is of the log
  pub sent : (log : List Entry) (n : ℕ) (e : Entry) → v.machine ≡ Some log → Among (n, e) v.sent → IsEntry log n e
  -- the log is of calls that began
  pub begun : (log : List Entry) → v.machine ≡ Some log → AllBegun w.history log

module _ {P : Type 0} (plain : Plain P) (t : Account) (s : IsSound plain t) (y : ℕ) (m : LogMessage) (rest : List LogMessage)
    (link : t.world.links Master (Server y) ≡ m ∷ rest) (v : ServerView (List Entry)) (good : IsGoodOrder t.world y v rest) where
  abbrev w : LogWorld
  w = t.world

  abbrev w1 : LogWorld
  w1 = with_view t.world Master y v

  queue_here : queue w1 y ≡ rest
  queue_here = front_here w.links Master (Server y) ∙ ap (drop 1) link

  queue_there : (z : ℕ) → (z == y) ≡ false → queue w1 z ≡ queue w z
  queue_there z f = front_not_to w.links Master (Server y) Master (Server z) f

  -- what holds of each queue, and of the shorter one
  each_queue : (Q : ℕ → ServerView (List Entry) → List LogMessage → Type 0) → Q y v rest → ((z : ℕ) → Q z (w.servers z) (queue w z))
      → (z : ℕ) → Q z (w1.servers z) (queue w1 z)
  each_queue Q here there z = elim (test (z == y)) [
    | inl e ↦ let same : z ≡ y = eqb-true _ _ e in
        subst (λ x. Q x (w1.servers x) (queue w1 x)) (sym same)
        (subst (λ u. Q y u (queue w1 y)) (sym (at_same y v w.servers)) (subst (Q y v) (sym queue_here) here))
    | inr f ↦ subst (λ u. Q z u (queue w1 z)) (sym (at_other y v w.servers z f)) (subst (Q z (w.servers z)) (sym (queue_there z f)) (there z))
  ]

  opened : (z k : ℕ) → IsOpened w z k → IsOpened w1 z k
  opened z k h = (h.0, λ p a. h.1 p (front_among w.links Master (Server y) Master (Server z) (message.NewPred k p) a))

  -- all facts hold after the step of the view
  pub order_sound : (committed : List Entry) (items : List Item) → ((i : Item) → Among i t.items → Among i items)
      → AreGoodLists plain w1 committed items → IsSound plain (record { world = w1; committed = committed; items = items })
  order_sound committed items more lists = record {
    distinct = s.distinct;
    used = s.used;
    blank = each_queue (λ z u q. (IsUsed w z → ⊥) → (u ≡ spare) × (q ≡ []))
        (λ unused. let none : ◌≡◌ {A = List LogMessage} (m ∷ rest) [] = sym link ∙ (s.blank y unused).1 in absurd (cc none)) s.blank;
    live = s.live;
    line = each_queue (λ z u q. (place : Place) → place_in_chain w z ≡ Some place
        → LeadsTo (IsPast w) (is_none u.machine && is_none u.pred) u.pred q place) good.line s.line;
    successors = λ x z k is. opened z k (each_at (λ a u. u.succ ≡ Some (z, k) → IsOpened w z k) y v w.servers x
        (good.successor z k) (s.successors x z k) is);
    epochs = each_queue (λ z u q. HasDistinctEpochs w.master.epoch q) (subst (HasDistinctEpochs w.master.epoch) link (s.epochs y)).1 s.epochs;
    tail_orders = each_queue (λ z u q. HasNoTailOrderBehind w z q) (subst (HasNoTailOrderBehind w y) link (s.tail_orders y)).1 s.tail_orders;
    ordered = good.ordered;
    committed = lists.shown;
    tail = lists.tail;
    sent = λ x log n e is a. each_at (λ z u. u.machine ≡ Some log → Among (n, e) u.sent → IsEntry log n e) y v w.servers
        x (good.sent log n e) (s.sent x log n e) is a;
    begun = λ x log is. each_at (λ z u. u.machine ≡ Some log → AllBegun w.history log) y v w.servers x (good.begun log) (s.begun x log) is;
    committed_begun = lists.committed_begun;
    justified = λ p q m' a. justified_later w w1 t.items items (record { begun = λ o h. h; given = more; opened = opened; failed = λ z h. h }) p q m'
        (s.justified p q m' (front_among w.links Master (Server y) p q m' a));
    acted = lists.acted;
    replays = lists.replays;
    rising = lists.rising;
    in_time = lists.in_time;
    answered = lists.answered;
    once = s.once;
    numbered = s.numbered;
    waits = s.waits;
  }
