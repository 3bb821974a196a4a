-- A server took a message of the master: the step of its view is sound. The log stays, whatever the message.
use Rattle.std.specs.Prelude.{◌&&◌, is_none}
use Rattle.std.proofs.Common.{◌≡◌, ℕ, true, false, ◌==◌, List, [], ◌∷◌, ◌++◌, length, Some, None, refl, sym, ap, ◌∙◌}
use Rattle.std.proofs.Common.{subst, inl, inr, eqb-true, append-nil}
use Rattle.std.proofs.Math.Seq.{drop-length}
use Rattle.zcalls.specs.declared.call.Entry.{Entry}
use Rattle.zcalls.specs.Lists.{Among, ComesBefore}
use Rattle.zcalls.specs.Cached.{Plain}
use Rattle.zcalls.specs.Acts.{after_log, acts_from}
use Rattle.zcalls.proofs.Among.{test}
use Rattle.zprotocol.specs.declared.message.Message.TheVariants as message
use Rattle.zprotocol.specs.declared.process.Process.TheVariants.{Master, Server}
use Rattle.zprotocol.specs.server.View.{ServerView}
use Rattle.zprotocol.specs.master.View.{members, is_among}
use Rattle.zlinearizability.specs.legal.Prefix.{IsPrefix, IsEntry}
use Rattle.zlinearizability.specs.legal.Items.{Item, all_at_time, AllBegun, new_items}
use Rattle.zlinearizability.proofs.legal_lemmas.lists.Prefixes.{prefix_same}
use Rattle.zlinearizability.specs.chain.Flow.{LogWorld, LogMessage, Log, or_else, log_at, first_snapshot_by, final_log, first_log}
use Rattle.zlinearizability.specs.chain.Chain.{queue, IsAhead, IsOpened, IsMember, IsPast, Place, place_in_chain, LeadsTo, HasNoTailOrder}
use Rattle.zlinearizability.specs.chain.Account.{Account, tail_log, committed_after}
use Rattle.zlinearizability.specs.chain.Sound.{IsSound, ChainIsOrdered, TailHoldsCommitted}
use Rattle.zlinearizability.proofs.chain_lemmas.links.Links.{at_cases, at_same, at_other, front_among}
use Rattle.zlinearizability.proofs.chain_lemmas.steps.Sends.{ahead_less}
use Rattle.zlinearizability.proofs.chain_lemmas.steps.Takes.{with_view, final_log_elsewhere, committed_view}
use Rattle.zlinearizability.proofs.chain_lemmas.steps.Views.{AreGoodLists}
use Rattle.zlinearizability.proofs.chain_lemmas.steps.Commits.{commit_sound}
use Rattle.zlinearizability.proofs.chain_lemmas.steps.ServerSteps.{tail_log_is, no_tail_log, account_with_view}
use Rattle.zlinearizability.proofs.master_lemmas.orders.OrderViews.{order_sound}

-- what is shown of the view after an order
pub record IsGoodTurn (w : LogWorld) (y : ℕ) (v : ServerView (List Entry)) (rest : List LogMessage) : Type 0 where
  -- the log stays
  pub machine : v.machine ≡ (w.servers y).machine
  -- a successor that no one orders away stays, or another comes
  pub succ : is_none (w.servers y).succ ≡ false → HasNoTailOrder (queue w y) → is_none v.succ ≡ false
  -- what it would hold in the end is no more than before
  pub final_log : (log : List Entry) → final_log (with_view w Master y v) y ≡ Some log
      → (more : List Entry) × (final_log w y ≡ Some more) × IsPrefix log more
  -- what it shows first is what it showed
  pub shows : (log : List Entry) → first_log (with_view w Master y v) y ≡ Some log
      → (shown : List Entry) × (first_log w y ≡ Some shown) × IsPrefix shown log
  -- its predecessor leads on
  pub line : (place : Place) → place_in_chain w y ≡ Some place → LeadsTo (IsPast w) (is_none v.machine && is_none v.pred) v.pred rest place
  -- its successor has taken the epoch
  pub successor : (z k : ℕ) → v.succ ≡ Some (z, k) → IsOpened w z k
  -- Sent is of the log
  pub sent : (log : List Entry) (n : ℕ) (e : Entry) → v.machine ≡ Some log → Among (n, e) v.sent → IsEntry log n e

module _ {P : Type 0} (plain : Plain P) (t : Account) (s : IsSound plain t) (y : ℕ) (m : LogMessage) (rest : List LogMessage)
    (link : t.world.links Master (Server y) ≡ m ∷ rest) (alive : t.world.failed y ≡ false)
    (v : ServerView (List Entry)) (good : IsGoodTurn t.world y v rest) where
  abbrev w : LogWorld
  w = t.world

  abbrev w1 : LogWorld
  w1 = with_view t.world Master y v

  -- the taker is a member, as something was in flight to it from the master
  pub member : IsMember w y
  member = elim (test (is_among y w.master.used)) [
    | inl used ↦ s.live y used alive
    | inr f ↦ absurd (let none : ◌≡◌ {A = List LogMessage} (m ∷ rest) [] = sym link ∙ (s.blank y (λ h. cc (f, h))).1 in cc none)
  ]

  no_tail : (x : ℕ) → HasNoTailOrder (queue w x) → HasNoTailOrder (queue w1 x)
  no_tail x h epoch a = h epoch (front_among w.links Master (Server y) Master (Server x) (message.BecomeTail epoch) a)

  ahead_turn : (x : ℕ) (log : List Entry) → IsAhead w x log → IsAhead w1 x log
  ahead_turn x log h = elim (test (x == y)) [
    | inl e ↦ here (eqb-true _ _ e)
    | inr f ↦ record {
      own = h.own;
      holds = ap (λ (u : ServerView (List Entry)). u.machine) (at_other y v w.servers x f) ∙ h.holds;
      begins = h.begins;
      has_successor = ap (λ (u : ServerView (List Entry)). is_none u.succ) (at_other y v w.servers x f) ∙ h.has_successor;
      no_tail_order = no_tail x h.no_tail_order;
    }
  ]
    where
      here : x ≡ y → IsAhead w1 x log
      here e =
          let view : w1.servers x ≡ v = subst (λ z. w1.servers z ≡ v) (sym e) (at_same y v w.servers) in
          record {
            own = h.own;
            holds = ap (λ (u : ServerView (List Entry)). u.machine) view ∙ good.machine ∙ subst (λ z. log_at w z ≡ Some h.own) e h.holds;
            begins = h.begins;
            has_successor = ap (λ (u : ServerView (List Entry)). is_none u.succ) view
                ∙ good.succ (subst (λ z. is_none (w.servers z).succ ≡ false) e h.has_successor)
                (subst (λ z. HasNoTailOrder (queue w z)) e h.no_tail_order);
            no_tail_order = no_tail x h.no_tail_order;
          }

  -- who is before the taker
  ahead_of : (x : ℕ) → ComesBefore x y (members w.master) → (log : List Entry) → final_log w1 y ≡ Some log → IsAhead w x log
  ahead_of x before log is = let more = good.final_log log is in ahead_less w x log more.0 more.2 (s.ordered x y before more.0 more.1)

  ordered : ChainIsOrdered w1
  ordered a b before log is = elim (test (b == y)) [
    | inl e ↦ let same : b ≡ y = eqb-true _ _ e in
        ahead_turn a log (ahead_of a (subst (λ c. ComesBefore a c (members w.master)) same before) log
        (subst (λ c. final_log w1 c ≡ Some log) same is))
    | inr f ↦ ahead_turn a log (s.ordered a b before log (sym (final_log_elsewhere w Master y v b f) ∙ is))
  ]

  begun : (log : List Entry) → v.machine ≡ Some log → AllBegun w.history log
  begun log is = s.begun y log (sym good.machine ∙ is)

  sound : (committed : List Entry) (items : List Item) → ((i : Item) → Among i t.items → Among i items)
      → AreGoodLists plain w1 committed items → IsSound plain (record { world = w1; committed = committed; items = items })
  sound = order_sound plain t s y m rest link v
      (record { line = good.line; successor = good.successor; ordered = ordered; sent = good.sent; begun = begun })

  quiet_tail : tail_log v ≡ None → TailHoldsCommitted w1 t.committed
  quiet_tail none z log in_chain is ends =
      at_cases (λ u. u.machine ≡ Some log → is_none u.succ ≡ true → log ≡ t.committed) y v w.servers z
      (λ e a b. absurd (no_tail_log v log none a b)) (λ f. s.tail z log in_chain) is ends

  nothing_new : new_items plain (length w.history) t.committed t.committed ≡ []
  nothing_new = ap (λ es. all_at_time (length w.history) (acts_from plain.update (after_log plain t.committed) es)) (drop-length t.committed)

  -- a tail holds what was committed
  tail_begins : (log : List Entry) → tail_log v ≡ Some log → IsPrefix t.committed log
  tail_begins log is =
      s.committed y log member (ap (λ l. or_else l (first_snapshot_by w y (w.servers y).pred)) (sym good.machine ∙ (tail_log_is v log is).0))

  begins_by : (l : Log) → tail_log v ≡ l → IsPrefix t.committed (committed_after l t.committed)
  begins_by None is = prefix_same t.committed
  begins_by (Some log) is = tail_begins log is

  -- what was committed stays committed
  pub turn_begins : IsPrefix t.committed (account_with_view plain t Master y v).committed
  turn_begins = begins_by (tail_log v) refl

  turn_step : (l : Log) → tail_log v ≡ l → IsSound plain (record {
    world = w1;
    committed = committed_after l t.committed;
    items = t.items ++ new_items plain (length w.history) t.committed (committed_after l t.committed);
  })
  turn_step None is =
      subst (λ more. IsSound plain (record { world = w1; committed = t.committed; items = t.items ++ more })) (sym nothing_new)
      (subst (λ items. IsSound plain (record { world = w1; committed = t.committed; items = items })) (sym (append-nil t.items))
      (sound t.committed t.items (λ i a. a) (record {
        shown = committed_view w Master y v t.committed good.shows s.committed;
        tail = quiet_tail is;
        committed_begun = s.committed_begun;
        acted = s.acted;
        replays = s.replays;
        rising = s.rising;
        in_time = s.in_time;
        answered = s.answered;
      })))
  turn_step (Some log) is =
      let tail = tail_log_is v log is in
      commit_sound plain t s Master y member v log tail.0 (tail_begins log is)
      (begun log tail.0) ahead_of sound
      (λ z behind l has. let ahead = s.ordered y z behind l has in
      let not : is_none v.succ ≡ false = good.succ ahead.has_successor ahead.no_tail_order in cc (tail.1, not))

  -- all facts hold after the step
  pub turn_sound : IsSound plain (account_with_view plain t Master y v)
  turn_sound = turn_step (tail_log v) refl
