-- A server puts its whole log to its successor: the order of the chain stays, and the committed log begins what is shown.
use Rattle.std.specs.Prelude.{is_none}
use Rattle.std.proofs.Common.{◌≡◌, ◌⊎◌, ℕ, false, ◌==◌, List, [], ◌∷◌, drop, Option, Some, None, refl, sym, ap, ◌∙◌, subst, inl, inr, eqb-true}
use Rattle.zcalls.specs.declared.call.Entry.{Entry}
use Rattle.zcalls.specs.Lists.{ComesBefore}
use Rattle.zcalls.specs.Cached.{Plain}
use Rattle.zcalls.proofs.Among.{test}
use Rattle.zprotocol.specs.declared.message.Message.TheVariants as message
use Rattle.zprotocol.specs.declared.process.Process.TheVariants.{Master, Server}
use Rattle.zprotocol.specs.server.View.{ServerView, Neighbour, Transfer}
use Rattle.zprotocol.specs.server.Table as server
use Rattle.zprotocol.specs.server.Table.{new_succ_row}
use Rattle.zprotocol.proofs.server_lemmas.Fields.{view_of}
use Rattle.zprotocol.specs.master.View.{members}
use Rattle.zprotocol.specs.declared.world.event.Event.TheVariants.{Take}
use Rattle.zprotocol.specs.world.Links.{without_front}
use Rattle.zprotocol.specs.world.Does.{Hear}
use Rattle.zprotocol.specs.world.Events.{does_in}
use Rattle.zlinearizability.specs.legal.Prefix.{IsPrefix}
use Rattle.zlinearizability.proofs.legal_lemmas.lists.Places.{before_second}
use Rattle.zlinearizability.proofs.legal_lemmas.lists.Prefixes.{prefix_same}
use Rattle.zlinearizability.specs.chain.Flow.{log_machine, LogWorld, LogMessage, Log, log_with_message, flow, snapshot_of}
use Rattle.zlinearizability.specs.chain.Flow.{first_snapshot, or_else, log_at, final_log_by, final_log, first_snapshot_by}
use Rattle.zlinearizability.specs.chain.Chain.{queue, IsAhead, IsOpened, IsMember, IsPair, HasNoTailOrder, HasNoTailOrderBehind}
use Rattle.zlinearizability.specs.chain.Account.{Account, account_by}
use Rattle.zlinearizability.specs.chain.Sound.{IsSound, IsSoundAfter, ChainIsOrdered, AllShowCommitted}
use Rattle.zlinearizability.proofs.chain_lemmas.links.Links.{at_same, front_among}
use Rattle.zlinearizability.proofs.chain_lemmas.flow.Flow.{flow_more, first_more}
use Rattle.zlinearizability.proofs.chain_lemmas.steps.Puts.{put_one, with_put, account_with_put, ahead_put, justified_put}
use Rattle.zlinearizability.proofs.chain_lemmas.places.Pairs.{settled_pred, pair_next}
use Rattle.zlinearizability.proofs.chain_lemmas.steps.Sends.{final_log_of_log, ahead_less}
use Rattle.zlinearizability.proofs.chain_lemmas.steps.Takes.{front_here}
use Rattle.zlinearizability.proofs.chain_lemmas.steps.ServerSteps.{account_with_view}
use Rattle.zlinearizability.proofs.master_lemmas.orders.OrderSteps.{IsGoodTurn, turn_sound, member}
use Rattle.zlinearizability.proofs.master_lemmas.orders.Neighbours.{after_turn}
use Rattle.zlinearizability.proofs.master_lemmas.orders.NewViews.{successor_opened, good_successor}

-- where there was no log, a whole one is there in its epoch only
shown_first : (epoch k : ℕ) (transfer : Transfer (List Entry)) (log : List Entry)
    → log_with_message epoch None (message.Snapshot k transfer) ≡ Some log
    → (epoch ≡ k) × (transfer.machine ≡ log)
shown_first epoch k transfer log h = elim (test (epoch == k)) [
  | inl t ↦ let is : ◌≡◌ {A = Log} (Some transfer.machine) (Some log) = rw t at h in (eqb-true _ _ t, cc is)
  | inr f ↦ let is : ◌≡◌ {A = Log} None (Some log) = rw f at h in absurd (cc is)
]

-- where there was one, it stays
shown_later : (epoch k : ℕ) (transfer : Transfer (List Entry)) (old log : List Entry)
    → log_with_message epoch (Some old) (message.Snapshot k transfer) ≡ Some log → old ≡ log
shown_later epoch k transfer old log h = elim (test (epoch == k)) [
  | inl t ↦ let is : ◌≡◌ {A = Log} (Some old) (Some log) = rw t at h in cc is
  | inr f ↦ let is : ◌≡◌ {A = Log} (Some old) (Some log) = rw f at h in cc is
]

-- a first log that is shown with one message more: it was shown, or the message shows it
or_later : (now first last : Log) (log : List Entry) → or_else now (or_else first (or_else last None)) ≡ Some log
    → (or_else now first ≡ Some log) ⊎ (last ≡ Some log)
or_later (Some own) first last log h = inl h
or_later None (Some own) last log h = inl h
or_later None None (Some own) log h = inr h
or_later None None None log h = cc h

whole_of : (epoch k : ℕ) (transfer : Transfer (List Entry)) (log : List Entry) → snapshot_of epoch (message.Snapshot k transfer) ≡ Some log
    → transfer.machine ≡ log
whole_of epoch k transfer log h = elim (test (epoch == k)) [
  | inl t ↦ let is : ◌≡◌ {A = Log} (Some transfer.machine) (Some log) = rw t at h in cc is
  | inr f ↦ let is : ◌≡◌ {A = Log} None (Some log) = rw f at h in cc is
]

module _ {P : Type 0} (plain : Plain P) (reported : Account) (s : IsSound plain reported) (x : ℕ) (x_in : IsMember reported.world x) (own : List Entry)
    (holds : log_at reported.world x ≡ Some own) (follows : is_none (reported.world.servers x).succ ≡ false) (t k last : ℕ)
    (stays : IsPair reported.world x t k → HasNoTailOrder (queue reported.world x)) where
  abbrev w : LogWorld
  w = reported.world

  abbrev transfer : Transfer (List Entry)
  transfer = record { last = last; machine = own }

  abbrev m : LogMessage
  m = message.Snapshot k transfer

  abbrev w1 : LogWorld
  w1 = with_put reported.world x (Server t) m

  -- whoever is before the receiver is ahead of the sender's log, where it is a pair with the
  -- receiver
  ahead_of_whole : IsPair w x t k → (a : ℕ) → ComesBefore a t (members w.master) → IsAhead w a own
  ahead_of_whole pair a before =
      let next = pair_next w s.distinct x t k pair in
      elim (next.others a before) [
        | inl is_x ↦ subst (λ b. IsAhead w b own) (sym is_x)
            (record { own = own; holds = holds; begins = prefix_same own; has_successor = follows; no_tail_order = stays pair })
        | inr further ↦
            let more = final_log_of_log w x own holds in
            ahead_less w a own more.0 more.2 (s.ordered a x further more.0 more.1)
      ]

  goes_on : (epoch : ℕ) (a : ℕ) → ComesBefore a t (members w.master) → (w.servers t).pred ≡ Some (x, epoch)
      → (old : Log) → final_log w t ≡ old → (log : List Entry) → log_with_message epoch old m ≡ Some log → IsAhead w a log
  goes_on epoch a before pred None is log h =
      let first = shown_first epoch k transfer log h in
      let pred' : (w.servers t).pred ≡ Some (x, k) = pred ∙ (λ i. Some (x, first.0 i)) in
      subst (IsAhead w a) first.1 (ahead_of_whole (settled_pred w s.line x t k x_in (before_second a t (members w.master) before) pred') a before)
  goes_on epoch a before pred (Some old) is log h = subst (IsAhead w a) (shown_later epoch k transfer old log h) (s.ordered a t before old is)

  put_by : (a b : ℕ) → ComesBefore a b (members w.master) → (pred : Option Neighbour) → (w.servers b).pred ≡ pred
      → (log : List Entry) → final_log_by w1 b (log_at w b) pred ≡ Some log → IsAhead w a log
  put_by a b before None is log h = s.ordered a b before log (ap (final_log_by w b (log_at w b)) is ∙ h)
  put_by a b before (Some pred) is log h = elim (put_one w.links (Server x) (Server t) m (Server pred.0) (Server b)) [
    | inl e ↦ s.ordered a b before log (ap (final_log_by w b (log_at w b)) is ∙ sym (ap (flow pred.1 (log_at w b)) e) ∙ h)
    | inr p ↦
        let from : pred.0 ≡ x = cc (p.0) in
        let to : b ≡ t = cc (p.1) in
        let link = w.links (Server pred.0) (Server b) in
        let old : flow pred.1 (log_at w b) link ≡ final_log w b = sym (ap (final_log_by w b (log_at w b)) is) in
        let before' : ComesBefore a t (members w.master) = subst (λ c. ComesBefore a c (members w.master)) to before in
        let pred' : (w.servers t).pred ≡ Some (x, pred.1) = subst (λ c. (w.servers c).pred ≡ Some (x, pred.1)) to (is
        ∙ (λ i. Some (from i, pred.1))) in
        goes_on pred.1 a before' pred' (final_log w t) refl log
        (ap (λ c. log_with_message pred.1 (final_log w c) m) (sym to) ∙ ap (λ l. log_with_message pred.1 l m) (sym old)
        ∙ sym (flow_more pred.1 (log_at w b) link (m ∷ []))
        ∙ sym (ap (flow pred.1 (log_at w b)) p.2) ∙ h)
  ]

  ordered : ChainIsOrdered w1
  ordered a b before log h = ahead_put w x (Server t) m a log (put_by a b before (w.servers b).pred refl log h)

  shows_by : (y : ℕ) → IsMember w y → (pred : Option Neighbour) → (w.servers y).pred ≡ pred → (log : List Entry)
      → or_else (log_at w y) (first_snapshot_by w1 y pred) ≡ Some log
      → IsPrefix reported.committed log
  shows_by y y_in None is log h = s.committed y log y_in (ap (λ p. or_else (log_at w y) (first_snapshot_by w y p)) is ∙ h)
  shows_by y y_in (Some pred) is log h = elim (put_one w.links (Server x) (Server t) m (Server pred.0) (Server y)) [
    | inl e ↦ s.committed y log y_in (ap (λ p. or_else (log_at w y) (first_snapshot_by w y p)) is
        ∙ sym (ap (λ l. or_else (log_at w y) (first_snapshot pred.1 l)) e) ∙ h)
    | inr p ↦
        let link = w.links (Server pred.0) (Server y) in
        elim (or_later (log_at w y) (first_snapshot pred.1 link) (snapshot_of pred.1 m) log
        (ap (or_else (log_at w y)) (sym (first_more pred.1 link (m ∷ [])))
        ∙ sym (ap (λ l. or_else (log_at w y) (first_snapshot pred.1 l)) p.2) ∙ h)) [
          | inl e ↦ s.committed y log y_in (ap (λ q. or_else (log_at w y) (first_snapshot_by w y q)) is ∙ e)
          | inr e ↦ subst (IsPrefix reported.committed) (whole_of pred.1 k transfer log e)
              (s.committed x own x_in (ap (λ l. or_else l (first_snapshot_by w x (w.servers x).pred)) holds))
        ]
  ]

  shows : AllShowCommitted w1 reported.committed
  shows y log y_in h = shows_by y y_in (w.servers y).pred refl log h

  -- all facts hold with the snapshot put
  pub put_whole : IsOpened reported.world t k → IsSound plain (account_with_put reported x (Server t) m)
  put_whole opened = record {
    distinct = s.distinct;
    used = s.used;
    blank = s.blank;
    live = s.live;
    line = s.line;
    successors = s.successors;
    epochs = s.epochs;
    tail_orders = s.tail_orders;
    ordered = ordered;
    committed = shows;
    tail = s.tail;
    sent = s.sent;
    begun = s.begun;
    committed_begun = s.committed_begun;
    justified = justified_put reported.world reported.items x (Server t) m (opened, s.begun x own holds) s.justified;
    acted = s.acted;
    replays = s.replays;
    rising = s.rising;
    in_time = s.in_time;
    answered = s.answered;
    once = s.once;
    numbered = s.numbered;
    waits = s.waits;
  }

-- what an initialised server does
hand_by : (machine : Log) (last : ℕ) (sent : List (ℕ × Entry)) (pred succ : Option Neighbour) (epoch z : ℕ) (own : List Entry) → machine ≡ Some own
    → new_succ_row (view_of machine last sent pred succ) epoch z None
    ≡ (view_of machine last sent pred (Some (z, epoch)), (Server z, message.Snapshot epoch (record { last = last; machine = own })) ∷ [])
unfolding new_succ_row
hand_by None last sent pred succ epoch z own has = absurd (cc has)
hand_by (Some log) last sent pred succ epoch z own has =
    let same : log ≡ own = cc has in
    λ i. (view_of (Some log) last sent pred (Some (z, epoch)), (Server z, message.Snapshot epoch (record { last = last; machine = same i })) ∷ [])

module _ {P : Type 0} (plain : Plain P) (t : Account) (s : IsSound plain t) (y epoch z : ℕ) (rest : List LogMessage)
    (link : t.world.links Master (Server y) ≡ message.NewSucc epoch z None ∷ rest) (alive : t.world.failed y ≡ false)
    (own : List Entry) (has : log_at t.world y ≡ Some own) where
  abbrev order : LogMessage
  order = message.NewSucc epoch z None

  abbrev led : ServerView (List Entry)
  led = record (t.world.servers y) { succ = Some (z, epoch) }

  opened : IsOpened t.world z epoch
  opened = successor_opened plain t s y epoch z None rest link alive

  good_hand : IsGoodTurn t.world y led rest
  good_hand = good_successor plain t s y epoch z None rest link alive

  handed : server.server_step (log_machine plain) (t.world.servers y) Master order
      ≡ (led, (Server z, message.Snapshot epoch (record { last = (t.world.servers y).last; machine = own })) ∷ [])
  unfolding server.server_step
  handed = hand_by (t.world.servers y).machine (t.world.servers y).last (t.world.servers y).sent (t.world.servers y).pred
      (t.world.servers y).succ epoch z own has

  abbrev led_account : Account
  led_account = account_with_view plain t Master y led

  queue_left : queue led_account.world y ≡ rest
  queue_left = front_here t.world.links Master (Server y) ∙ ap (drop 1) link

  -- the event
  pub take_whole_order : IsSoundAfter plain t (account_by plain t (Take Master (Server y))
      (does_in (log_machine plain) (record t.world { links = without_front t.world.links Master (Server y) }) (Server y) (Hear Master order)))
  take_whole_order = after_turn plain t s y order rest link alive
      (led, (Server z, message.Snapshot epoch (record { last = (t.world.servers y).last; machine = own })) ∷ []) handed good_hand
      (put_whole plain led_account (turn_sound plain t s y order rest link alive led good_hand) y
      (member plain t s y order rest link alive led good_hand) own
      (ap (λ (u : ServerView (List Entry)). u.machine) (at_same y led t.world.servers) ∙ has)
      (ap (λ (u : ServerView (List Entry)). is_none u.succ) (at_same y led t.world.servers)) z epoch (t.world.servers y).last
      (λ pair. subst HasNoTailOrder (sym queue_left) ((subst (HasNoTailOrderBehind t.world y) link (s.tail_orders y)).0 pair))
      (opened.0, λ p a. opened.1 p (front_among t.world.links Master (Server y) Master (Server z) (message.NewPred epoch p) a)))
