-- The event Take at a server, of the master's BecomeTail, BecomeHead and NewPred.
use Rattle.std.specs.Prelude.{◌&&◌, is_none}
use Rattle.std.proofs.Common.{◌≡◌, ℕ, true, false, ◌==◌, List, [], ◌∷◌, ◌++◌, length, drop, Option, Some, None, refl}
use Rattle.std.proofs.Common.{sym, ap, ◌∙◌, subst, inl, inr, eqb-true}
use Rattle.zcalls.specs.declared.call.Entry.{Entry}
use Rattle.zcalls.specs.Lists.{Among}
use Rattle.zcalls.specs.Cached.{Plain}
use Rattle.zcalls.proofs.Among.{test}
use Rattle.zprotocol.specs.declared.message.Message.TheVariants as message
use Rattle.zprotocol.specs.declared.process.Process.TheVariants.{Master, Server}
use Rattle.zprotocol.specs.server.View.{ServerView, Neighbour, Post}
use Rattle.zprotocol.specs.server.Table.{ServerResult, ack_posts, last_number, become_tail_row, become_head_row, new_pred_row}
use Rattle.zprotocol.specs.server.Table as server
use Rattle.zprotocol.specs.server.support.Cases.{acks_all}
use Rattle.zprotocol.specs.declared.world.event.Event.TheVariants.{Take}
use Rattle.zprotocol.specs.world.Links.{without_front}
use Rattle.zprotocol.specs.world.Does.{Hear, server_effect}
use Rattle.zprotocol.specs.world.Events.{did_in, does_in}
use Rattle.zlinearizability.specs.legal.Items.{Item, new_items}
use Rattle.zlinearizability.proofs.legal_lemmas.lists.Prefixes.{prefix_same}
use Rattle.zlinearizability.specs.chain.Flow.{log_machine, LogWorld, LogMessage, Log, or_else, log_at, final_log_by, final_log, first_snapshot_by, first_log}
use Rattle.zlinearizability.specs.chain.Chain.{IsOpened, IsPast, LeadsTo, is_fresh, HasDistinctEpochs}
use Rattle.zlinearizability.specs.chain.Messages.{IsJustified}
use Rattle.zlinearizability.specs.chain.Account.{Account, tail_log, committed_after, account_by}
use Rattle.zlinearizability.specs.chain.Sound.{IsSound, IsSoundAfter}
use Rattle.zlinearizability.proofs.chain_lemmas.flow.Flow.{IsForeign, AreForeign, flow_foreign, first_foreign}
use Rattle.zlinearizability.proofs.chain_lemmas.places.Orders.{leads_more}
use Rattle.zlinearizability.proofs.chain_lemmas.links.Links.{at_same}
use Rattle.zlinearizability.proofs.chain_lemmas.steps.Sends.{final_log_of_log}
use Rattle.zlinearizability.proofs.chain_lemmas.steps.Takes.{with_view, front_here}
use Rattle.zlinearizability.proofs.chain_lemmas.steps.ServerSteps.{account_with_puts, puts_at_once, puts_unread, acks_unread}
use Rattle.zlinearizability.proofs.chain_lemmas.steps.ServerSteps.{account_with_view, IsUnreadAndJustified, after_puts}
use Rattle.zlinearizability.proofs.master_lemmas.orders.OrderSteps.{IsGoodTurn, turn_sound, turn_begins}

-- a message of an epoch that the receiver hasn't taken doesn't count
justified_foreign : (w : LogWorld) (items : List Item) (q y k : ℕ) → (IsOpened w y k → ⊥) → (m : LogMessage)
    → IsJustified w items (Server q) (Server y) m → IsForeign k m
justified_foreign w items q y k closed (message.Update epoch n e) justified = elim (test (k == epoch)) [
  | inl t ↦ absurd (closed (subst (IsOpened w y) (sym (eqb-true _ _ t)) justified.0))
  | inr f ↦ (λ log. rw f refl, refl)
]
justified_foreign w items q y k closed (message.Snapshot epoch transfer) justified = elim (test (k == epoch)) [
  | inl t ↦ absurd (closed (subst (IsOpened w y) (sym (eqb-true _ _ t)) justified.0))
  | inr f ↦ (λ log. rw f refl, rw f refl)
]
justified_foreign w items q y k closed m justified = (λ log. refl, refl)

all_foreign : (w : LogWorld) (items : List Item) (q y k : ℕ) → (IsOpened w y k → ⊥) → (link : List LogMessage)
    → ((m : LogMessage) → Among m link → IsJustified w items (Server q) (Server y) m) → AreForeign k link
all_foreign w items q y k closed [] justified = tt
all_foreign w items q y k closed (m ∷ link) justified = (
  justified_foreign w items q y k closed m (justified m (inl refl)),
  all_foreign w items q y k closed link (λ n a. justified n (inr a)),
)

or_none : (log : Log) → or_else log None ≡ log
or_none None = refl
or_none (Some log) = refl

module _ {P : Type 0} (plain : Plain P) (t : Account) (s : IsSound plain t) (y : ℕ) (m : LogMessage) (rest : List LogMessage)
    (link : t.world.links Master (Server y) ≡ m ∷ rest) (alive : t.world.failed y ≡ false) where
  abbrev w : LogWorld
  w = t.world

  abbrev old : ServerView (List Entry)
  old = t.world.servers y

  -- what a view with the old log shows and would hold, by its predecessor
  pub final_log_of : (v : ServerView (List Entry)) → final_log (with_view w Master y v) y ≡ final_log_by (with_view w Master y v) y v.machine v.pred
  final_log_of v = ap (λ (u : ServerView (List Entry)). final_log_by (with_view w Master y v) y u.machine u.pred) (at_same y v w.servers)

  -- and what it shows first
  pub first_log_of : (v : ServerView (List Entry)) → first_log (with_view w Master y v) y
      ≡ or_else v.machine (first_snapshot_by (with_view w Master y v) y v.pred)
  first_log_of v = ap (λ (u : ServerView (List Entry)). or_else u.machine (first_snapshot_by (with_view w Master y v) y u.pred))
      (at_same y v w.servers)

  -- other links stay
  pub same_final_log : (v : ServerView (List Entry)) (log : Log) (pred : Option Neighbour)
      → final_log_by (with_view w Master y v) y log pred ≡ final_log_by w y log pred
  same_final_log v log None = refl
  same_final_log v log (Some pred) = refl

  -- other links stay
  pub same_first : (v : ServerView (List Entry)) (pred : Option Neighbour) → first_snapshot_by (with_view w Master y v) y pred
      ≡ first_snapshot_by w y pred
  same_first v None = refl
  same_first v (Some pred) = refl

  -- the whole event, from the view and what is put
  abbrev popped : LogWorld
  popped = record t.world { links = without_front t.world.links Master (Server y) }

  abbrev taken : ServerResult (List Entry)
  taken = server.server_step (log_machine plain) (t.world.servers y) Master m

  account_of : (r : ServerResult (List Entry)) → server.server_step (log_machine plain) (t.world.servers y) Master m ≡ r
      → account_with_puts (account_with_view plain t Master y r.0) y r.1 ≡ account_by plain t (Take Master (Server y))
      (did_in popped (Server y) (server_effect taken))
  account_of r is =
      ap (λ (x : ServerResult (List Entry)). account_with_puts (account_with_view plain t Master y x.0) y x.1) (sym is)
      ∙ puts_at_once (account_with_view plain t Master y taken.0) y taken.1
      ∙ (λ i.
      let committed : List Entry = committed_after (tail_log (sym (at_same y taken.0 w.servers) i)) t.committed in
      record {
        world = did_in popped (Server y) (server_effect taken);
        committed = committed;
        items = t.items ++ new_items plain (length w.history) t.committed committed;
      })

  -- the whole event, from the view and what is put
  pub after_turn : (r : ServerResult (List Entry)) → server.server_step (log_machine plain) (t.world.servers y) Master m ≡ r
      → IsGoodTurn t.world y r.0 rest
      → IsSound plain (account_with_puts (account_with_view plain t Master y r.0) y r.1)
      → IsSoundAfter plain t (account_by plain t (Take Master (Server y)) (did_in popped (Server y) (server_effect taken)))
  after_turn r is good sound =
      after_puts plain t (account_with_view plain t Master y r.0) _ y r.1 (account_of r is) sound (turn_begins plain t s y m rest link alive r.0 good)

-- BecomeTail
module _ {P : Type 0} (plain : Plain P) (t : Account) (s : IsSound plain t) (y epoch : ℕ) (rest : List LogMessage)
    (link : t.world.links Master (Server y) ≡ message.BecomeTail epoch ∷ rest) (alive : t.world.failed y ≡ false) where
  abbrev ended : ServerView (List Entry)
  ended = record (t.world.servers y) { sent = []; succ = None }

  good_end : IsGoodTurn t.world y ended rest
  good_end = record {
    machine = refl;
    succ = λ some no_order. absurd (no_order epoch (subst (Among (message.BecomeTail epoch)) (sym link) (inl refl)));
    final_log = λ log is. (
      log,
      sym (final_log_of plain t s y (message.BecomeTail epoch) rest link alive ended
          ∙ same_final_log plain t s y (message.BecomeTail epoch) rest link alive ended ended.machine ended.pred) ∙ is,
      prefix_same log,
    );
    shows = λ log is. (
      log,
      sym (first_log_of plain t s y (message.BecomeTail epoch) rest link alive ended
          ∙ ap (or_else ended.machine) (same_first plain t s y (message.BecomeTail epoch) rest link alive ended ended.pred)) ∙ is,
      prefix_same log,
    );
    line = λ place is. subst (λ q. LeadsTo (IsPast t.world) (is_fresh t.world y) (t.world.servers y).pred q place) link (s.line y place is);
    successor = λ z k is. absurd (let e : ◌≡◌ {A = Option Neighbour} None (Some (z, k)) = is in cc e);
    sent = λ log n e is a. absurd a;
  }

  end_taken : server.server_step (log_machine plain) (t.world.servers y) Master (message.BecomeTail epoch) ≡ (ended, acks_all (t.world.servers y))
  unfolding server.server_step become_tail_row
  end_taken = refl

  acks_by : (machine : Log) (post : Post (List Entry))
      → Among post (elim machine as (λ x. List (Post (List Entry))) [
        | None ↦ []
        | Some log ↦ ack_posts (t.world.servers y).pred
            (t.world.servers y).last
      ])
      → IsUnreadAndJustified (account_with_view plain t Master y ended).world (account_with_view plain t Master y ended).items y post
  acks_by None post a = absurd a
  acks_by (Some log) post a = acks_unread (account_with_view plain t Master y ended).world (account_with_view plain t Master y ended).items
      y (t.world.servers y).pred (t.world.servers y).last post a

  -- the event
  pub take_tail_order : IsSoundAfter plain t (account_by plain t (Take Master (Server y))
      (does_in (log_machine plain) (record t.world { links = without_front t.world.links Master (Server y) }) (Server y)
      (Hear Master (message.BecomeTail epoch))))
  take_tail_order = after_turn plain t s y (message.BecomeTail epoch) rest link alive (ended, acks_all (t.world.servers y)) end_taken good_end
      (puts_unread plain (account_with_view plain t Master y ended) y (acks_all (t.world.servers y)) (acks_by (t.world.servers y).machine)
      (turn_sound plain t s y (message.BecomeTail epoch) rest link alive ended good_end))

-- BecomeHead
module _ {P : Type 0} (plain : Plain P) (t : Account) (s : IsSound plain t) (y epoch : ℕ) (rest : List LogMessage)
    (link : t.world.links Master (Server y) ≡ message.BecomeHead epoch ∷ rest) (alive : t.world.failed y ≡ false) where
  abbrev led : ServerView (List Entry)
  led = record (t.world.servers y) { pred = None }

  good_head : IsGoodTurn t.world y led rest
  good_head = record {
    machine = refl;
    succ = λ some no_order. some;
    final_log = λ log is. final_log_of_log t.world y log (sym (final_log_of plain t s y (message.BecomeHead epoch) rest link alive led) ∙ is);
    shows = λ log is.
        let mine : log_at t.world y ≡ Some log = sym (first_log_of plain t s y (message.BecomeHead epoch) rest link alive led
        ∙ or_none (log_at t.world y)) ∙ is in
        (log, ap (λ l. or_else l (first_snapshot_by t.world y (t.world.servers y).pred)) mine, prefix_same log);
    line = λ place is.
        let leads = subst (λ q. LeadsTo (IsPast t.world) (is_fresh t.world y) (t.world.servers y).pred q place) link (s.line y place is) in
        leads_more (IsPast t.world) (IsPast t.world) false (is_none (t.world.servers y).machine && true) None rest place
        (λ p past. past) (λ e. cc e) leads.1;
    successor = λ z k is. s.successors y z k is;
    sent = s.sent y;
  }

  head_taken : server.server_step (log_machine plain) (t.world.servers y) Master (message.BecomeHead epoch) ≡ (led, [])
  unfolding server.server_step become_head_row
  head_taken = refl

  -- the event
  pub take_head_order : IsSoundAfter plain t (account_by plain t (Take Master (Server y))
      (does_in (log_machine plain) (record t.world { links = without_front t.world.links Master (Server y) }) (Server y)
      (Hear Master (message.BecomeHead epoch))))
  take_head_order = after_turn plain t s y (message.BecomeHead epoch) rest link alive (led, []) head_taken good_head
      (turn_sound plain t s y (message.BecomeHead epoch) rest link alive led good_head)

-- NewPred
module _ {P : Type 0} (plain : Plain P) (t : Account) (s : IsSound plain t) (y epoch p : ℕ) (rest : List LogMessage)
    (link : t.world.links Master (Server y) ≡ message.NewPred epoch p ∷ rest) (alive : t.world.failed y ≡ false) where
  abbrev turned : ServerView (List Entry)
  turned = record (t.world.servers y) { pred = Some (p, epoch) }

  closed : IsOpened t.world y epoch → ⊥
  closed h = h.1 p (subst (Among (message.NewPred epoch p)) (sym link) (inl refl))

  foreign : AreForeign epoch (t.world.links (Server p) (Server y))
  foreign = all_foreign t.world t.items p y epoch closed (t.world.links (Server p) (Server y)) (s.justified (Server p) (Server y))

  good_turn : IsGoodTurn t.world y turned rest
  good_turn = record {
    machine = refl;
    succ = λ some no_order. some;
    final_log = λ log is. final_log_of_log t.world y log
        (sym (final_log_of plain t s y (message.NewPred epoch p) rest link alive turned
        ∙ flow_foreign epoch (log_at t.world y) (t.world.links (Server p) (Server y)) foreign) ∙ is);
    shows = λ log is.
        let mine : log_at t.world y ≡ Some log =
        sym (first_log_of plain t s y (message.NewPred epoch p) rest link alive turned
        ∙ ap (or_else (log_at t.world y)) (first_foreign epoch (t.world.links (Server p) (Server y)) foreign) ∙ or_none (log_at t.world y)) ∙ is in
        (log, ap (λ l. or_else l (first_snapshot_by t.world y (t.world.servers y).pred)) mine, prefix_same log);
    line = λ place is.
        let leads = subst (λ q. LeadsTo (IsPast t.world) (is_fresh t.world y) (t.world.servers y).pred q place) link (s.line y place is) in
        leads_more (IsPast t.world) (IsPast t.world) false (is_none (t.world.servers y).machine && false) (Some (p, epoch))
        rest place (λ q past. past) (λ e. cc e) leads.1;
    successor = λ z k is. s.successors y z k is;
    sent = s.sent y;
  }

  pred_taken : server.server_step (log_machine plain) (t.world.servers y) Master (message.NewPred epoch p)
      ≡ (turned, (Master, message.Have epoch (last_number (t.world.servers y))) ∷ [])
  unfolding server.server_step new_pred_row
  pred_taken = refl

  -- the epoch is opened now
  opens : IsOpened (with_view t.world Master y turned) y epoch
  opens =
      let new = (subst (HasDistinctEpochs t.world.master.epoch) link (s.epochs y)).0 in
      (new.0, λ q a. new.1 q (subst (Among (message.NewPred epoch q)) (front_here t.world.links Master (Server y) ∙ ap (drop 1) link) a))

  have_justified : (post : Post (List Entry)) → Among post ((Master, message.Have epoch (last_number (t.world.servers y))) ∷ [])
      → IsUnreadAndJustified (account_with_view plain t Master y turned).world (account_with_view plain t Master y turned).items y post
  have_justified post (inl e) = subst (IsUnreadAndJustified (account_with_view plain t Master y turned).world
      (account_with_view plain t Master y turned).items y) e (tt, opens)
  have_justified post (inr a) = absurd a

  -- the event
  pub take_pred_order : IsSoundAfter plain t (account_by plain t (Take Master (Server y))
      (does_in (log_machine plain) (record t.world { links = without_front t.world.links Master (Server y) }) (Server y)
      (Hear Master (message.NewPred epoch p))))
  take_pred_order = after_turn plain t s y (message.NewPred epoch p) rest link alive
      (turned, (Master, message.Have epoch (last_number (t.world.servers y))) ∷ []) pred_taken good_turn
      (puts_unread plain (account_with_view plain t Master y turned) y ((Master, message.Have epoch (last_number (t.world.servers y))) ∷ [])
      have_justified
      (turn_sound plain t s y (message.NewPred epoch p) rest link alive turned good_turn))
