-- A server took a message that isn't the master's, and has a new view: what has to be shown of the view so that all is sound.
use Rattle.std.specs.Prelude.{◌&&◌, is_none}
use Rattle.std.proofs.Common.{◌≡◌, ℕ, Bool, true, false, List, Some, sym, ap, ◌∙◌, subst}
use Rattle.zcalls.specs.declared.call.Entry.{Entry}
use Rattle.zcalls.specs.Lists.{Among, ComesBefore}
use Rattle.zcalls.specs.Cached.{Plain}
use Rattle.zprotocol.specs.declared.message.Message.TheVariants as message
use Rattle.zprotocol.specs.declared.process.Process.{Process}
use Rattle.zprotocol.specs.declared.process.Process.TheVariants.{Master, Server}
use Rattle.zprotocol.specs.server.View.{ServerView, spare}
use Rattle.zprotocol.specs.master.View.{members}
use Rattle.zprotocol.specs.world.Links.{is_same}
use Rattle.zprotocol.specs.world.World.{at}
use Rattle.zprotocol.specs.world.PlainTree.{service_of}
use Rattle.zlinearizability.specs.legal.Prefix.{IsPrefix, IsEntry}
use Rattle.zlinearizability.specs.legal.Items.{Item, Replays, AreCommitted, TimesRise, AreBegunInTime, AreAnsweredInTime, AllBegun}
use Rattle.zlinearizability.specs.chain.Flow.{LogWorld, log_at, final_log}
use Rattle.zlinearizability.specs.chain.Chain.{queue, IsAhead, IsOpened, IsUsed, IsPast, Place, place_in_chain, LeadsTo}
use Rattle.zlinearizability.specs.chain.Chain.{is_fresh, HasDistinctEpochs, HasNoTailOrderBehind}
use Rattle.zlinearizability.specs.chain.Account.{Account}
use Rattle.zlinearizability.specs.chain.Sound.{IsSound, AllShowCommitted, TailHoldsCommitted, OrdersLead}
use Rattle.zlinearizability.proofs.chain_lemmas.links.Links.{at_cases, front_among}
use Rattle.zlinearizability.proofs.chain_lemmas.places.Orders.{leads_more}
use Rattle.zlinearizability.proofs.chain_lemmas.steps.Takes.{with_view, front_not_from, ordered_view}
use Rattle.zlinearizability.proofs.chain_lemmas.links.LaterWorlds.{justified_later}

-- what is shown of a new view
pub record IsGoodView (w : LogWorld) (from : Process) (y : ℕ) (v : ServerView (List Entry)) : Type 0 where
  -- neighbours stay
  pub pred : v.pred ≡ (w.servers y).pred
  pub succ : v.succ ≡ (w.servers y).succ
  -- a log grows
  pub grows : (log : List Entry) → log_at w y ≡ Some log → (new : List Entry) × (v.machine ≡ Some new) × IsPrefix log new
  -- who is before the taker is ahead of all that it has or could still take
  pub ahead : (x : ℕ) → ComesBefore x y (members w.master) → (log : List Entry) → final_log (with_view w from y v) y ≡ Some log → IsAhead w x log
  -- a server that wasn't used stays blank
  pub blank : (IsUsed w y → ⊥) → v ≡ spare
  -- a fresh server stays so
  pub fresh : is_fresh w y ≡ true → is_none v.machine ≡ true
  -- Sent is of the log
  pub sent : (log : List Entry) (n : ℕ) (e : Entry) → v.machine ≡ Some log → Among (n, e) v.sent → IsEntry log n e
  -- the log is of calls that began
  pub begun : (log : List Entry) → v.machine ≡ Some log → AllBegun w.history log

-- what is shown of the committed log and the items then
pub record AreGoodLists {P : Type 0} (plain : Plain P) (w : LogWorld) (committed : List Entry) (items : List Item) : Type 0 where
  pub shown : AllShowCommitted w committed
  pub tail : TailHoldsCommitted w committed
  pub committed_begun : AllBegun w.history committed
  pub acted : AreCommitted plain committed items
  pub replays : Replays (service_of plain) plain.opening items
  pub rising : TimesRise items
  pub in_time : AreBegunInTime w.history items
  pub answered : AreAnsweredInTime items 0 w.history

-- each server has its old view, or the taker its new one
pub each_at : (Q : ℕ → ServerView (List Entry) → Type 0) (y : ℕ) (v : ServerView (List Entry)) (servers : ℕ → ServerView (List Entry)) (s : ℕ)
    → Q y v → Q s (servers s) → Q s (at y v servers s)
each_at Q y v servers s new old = at_cases (Q s) y v servers s (λ e. subst (λ z. Q z v) (sym e) new) (λ f. old)

module _ {P : Type 0} (plain : Plain P) (t : Account) (s : IsSound plain t) (from : Process) (not_master : is_same Master from ≡ false)
    (y : ℕ) (v : ServerView (List Entry)) (good : IsGoodView t.world from y v) where
  abbrev w : LogWorld
  w = t.world

  abbrev w1 : LogWorld
  w1 = with_view t.world from y v

  same_queue : (z : ℕ) → queue w1 z ≡ queue w z
  same_queue z = front_not_from w.links from (Server y) Master (Server z) not_master

  opened : (z k : ℕ) → IsOpened w z k → IsOpened w1 z k
  opened z k h = (h.0, λ p a. h.1 p (subst (Among (message.NewPred k p)) (same_queue z) a))

  line : OrdersLead w1
  line z place is = subst (λ q. LeadsTo (IsPast w) (is_fresh w1 z) (w1.servers z).pred q place) (sym (same_queue z))
      (each_at (λ x u. (p : Place) → place_in_chain w x ≡ Some p → LeadsTo (IsPast w) (is_none u.machine && is_none u.pred) u.pred (queue w x) p)
      y v w.servers z
      (λ p is'. subst (λ pred. LeadsTo (IsPast w) (is_none v.machine && is_none pred) pred (queue w y) p) (sym good.pred)
      (leads_more (IsPast w) (IsPast w) (is_fresh w y) (is_none v.machine && is_none (w.servers y).pred) (w.servers y).pred
      (queue w y) p (λ q past. past)
      (λ fresh. still (is_none (log_at w y)) (is_none (w.servers y).pred) fresh (good.fresh fresh)) (s.line y p is')))
      (s.line z) place is)
    where
      still : (a b : Bool) → (a && b) ≡ true → {c : Bool} → c ≡ true → (c && b) ≡ true
      still true b h c = ap (λ x. x && b) c ∙ h
      still false b h c = absurd (cc h)

  -- all facts hold after the step of the view
  pub view_sound : (committed : List Entry) (items : List Item) → ((i : Item) → Among i t.items → Among i items)
      → AreGoodLists plain w1 committed items → IsSound plain (record { world = w1; committed = committed; items = items })
  view_sound committed items more lists = record {
    distinct = s.distinct;
    used = s.used;
    blank = λ z unused. (
      each_at (λ x u. (IsUsed w x → ⊥) → u ≡ spare) y v w.servers z good.blank (λ h. (s.blank z h).0) unused,
      same_queue z
          ∙ (s.blank z unused).1,
    );
    live = s.live;
    line = line;
    successors = λ x z k is. opened z k (each_at (λ a u. u.succ ≡ Some (z, k) → IsOpened w z k) y v w.servers x
        (λ e. s.successors y z k (sym good.succ ∙ e)) (s.successors x z k) is);
    epochs = λ z. subst (HasDistinctEpochs w.master.epoch) (sym (same_queue z)) (s.epochs z);
    tail_orders = λ z. subst (HasNoTailOrderBehind w z) (sym (same_queue z)) (s.tail_orders z);
    ordered = ordered_view w from y v not_master good.grows good.succ good.ahead s.ordered;
    committed = lists.shown;
    tail = lists.tail;
    sent = λ x log n e is a. each_at (λ z u. u.machine ≡ Some log → Among (n, e) u.sent → IsEntry log n e) y v w.servers
        x (good.sent log n e) (s.sent x log n e) is a;
    begun = λ x log is. each_at (λ z u. u.machine ≡ Some log → AllBegun w.history log) y v w.servers x (good.begun log) (s.begun x log) is;
    committed_begun = lists.committed_begun;
    justified = λ p q m a. justified_later w w1 t.items items (record { begun = λ o h. h; given = more; opened = opened; failed = λ z h. h }) p q m
        (s.justified p q m (front_among w.links from (Server y) p q m a));
    acted = lists.acted;
    replays = lists.replays;
    rising = lists.rising;
    in_time = lists.in_time;
    answered = lists.answered;
    once = s.once;
    numbered = s.numbered;
    waits = s.waits;
  }
