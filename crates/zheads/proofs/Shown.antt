-- What the front end's chain shows of a log world. There each entry has a client of its own, and
-- here all are client 0's, numbered by their positions. The server table commutes with that.
use Rattle.std.specs.Prelude.{if◌then◌else◌}
use Rattle.std.proofs.Common.{◌≡◌, ℕ, ◌+◌, Bool, true, false, nat_lt, ◌==◌, List, [], ◌∷◌, ◌++◌, map, length, Option, Some, None, refl, sym, ap, ◌∙◌, subst, inl, inr, arith, eqb-true}
use Rattle.std.proofs.lemmas.List.{map-append}
use Rattle.zcalls.specs.declared.call.Entry.{Entry}
use Rattle.zcalls.specs.declared.call.Update.{Update}
use Rattle.zcalls.specs.declared.reply.Reply.{Reply}
use Rattle.zcalls.specs.Cached.{Plain}
use Rattle.zcalls.proofs.Among.{test}
use Rattle.zprotocol.specs.declared.message.Message.TheVariants as message
use Rattle.zprotocol.specs.declared.process.Process.{Process}
use Rattle.zprotocol.specs.declared.process.Process.TheVariants.{Master, Server, Client}
use Rattle.zprotocol.specs.server.Machine.{Does, replay}
use Rattle.zprotocol.specs.server.View.{ServerView, Neighbour, Transfer, MessageOf, Post}
use Rattle.zprotocol.specs.server.Table.{ServerResult, no_effect, is_neighbour, has_room, ack_posts, answer_posts, forward_post, entries_above, accept_result, submit_row, update_row, ack_row, snapshot_row, new_pred_row, new_succ_row, become_head_row, become_tail_row, server_step}
use Rattle.zprotocol.proofs.server_lemmas.Fields.{view_of}
use Rattle.zprotocol.proofs.server_lemmas.Projection.{after_one_more}
use Rattle.zprotocol.specs.world.Links.{is_same, messages_to}
use Rattle.zlinearizability.specs.chain.Flow.{log_machine, LogMessage, Log, length_of}

-- an entry as client 0's, numbered by its position
abbrev pub front_entry : ℕ → Entry → Entry
front_entry n e = record { client = 0; number = n; update = e.update }

abbrev pub numbered : ℕ → List Entry → List Entry
numbered n [] = []
numbered n (e ∷ es) = front_entry (n + 1) e ∷ numbered (n + 1) es

abbrev pub shown_sent : ℕ × Entry → ℕ × Entry
shown_sent e = (e.0, front_entry e.0 e.1)

-- the master and servers
abbrev pub IsInside : Process → Type 0
IsInside (Client c) = ⊥
IsInside p = Unit {0}

numbered_more : (n : ℕ) (log : List Entry) (e : Entry) (k : ℕ) → k ≡ n + length log + 1
    → numbered n (log ++ e ∷ []) ≡ numbered n log ++ front_entry k e ∷ []
numbered_more n [] e k is = let same : n + 1 ≡ k = omega arith in λ i. front_entry (same i) e ∷ []
numbered_more n (x ∷ log) e k is = ap (λ l. front_entry (n + 1) x ∷ l) (numbered_more (n + 1) log e k (omega arith))

above_shown : (n : ℕ) (sent : List (ℕ × Entry)) → entries_above n (map shown_sent sent) ≡ map shown_sent (entries_above n sent)
above_shown n [] = refl
above_shown n (s ∷ sent) = elim (test (nat_lt n s.0)) [
  | inl t ↦ rw t (ap (λ l. shown_sent s ∷ l) (above_shown n sent))
  | inr f ↦ rw f (above_shown n sent)
]

module _ {M : Type 0} (machine : Does M) where
  -- the machine after a log
  abbrev pub machine_after : List Entry → M
  machine_after log = replay machine (numbered 0 log)

  pub machine_more : (log : List Entry) (e : Entry) (k : ℕ) → k ≡ length log + 1
      → machine_after (log ++ e ∷ []) ≡ (machine.apply (machine_after log) (front_entry k e)).0
  machine_more log e k is =
      ap (replay machine) (numbered_more 0 log e k (omega arith)) ∙ after_one_more machine machine.start (numbered 0 log) (front_entry k e)

  abbrev pub shown_machine : Log → Option M
  shown_machine None = None
  shown_machine (Some log) = Some (machine_after log)

  -- a view and a message
  abbrev pub shown_view : ServerView (List Entry) → ServerView M
  shown_view v = record { machine = shown_machine v.machine; last = v.last; sent = map shown_sent v.sent; pred = v.pred; succ = v.succ }

  abbrev pub shown : LogMessage → MessageOf M
  shown (message.Submit number update) = message.Submit number update
  shown (message.Query number query) = message.Query number query
  shown (message.Answer number reply) = message.Answer number reply
  shown (message.Update epoch n e) = message.Update epoch n (front_entry n e)
  shown (message.Ack epoch n) = message.Ack epoch n
  shown (message.Snapshot epoch transfer) = message.Snapshot epoch (record { last = transfer.last; machine = machine_after transfer.machine })
  shown (message.NewPred epoch pred) = message.NewPred epoch pred
  shown (message.Have epoch last) = message.Have epoch last
  shown (message.NewSucc epoch succ last) = message.NewSucc epoch succ last
  shown (message.BecomeHead epoch) = message.BecomeHead epoch
  shown (message.BecomeTail epoch) = message.BecomeTail epoch
  shown message.Retire = message.Retire
  shown (message.Joined epoch) = message.Joined epoch
  shown message.Gone = message.Gone
  shown (message.Config epoch head tail) = message.Config epoch head tail

  -- the same is put for the master and servers
  abbrev pub SamePosts : List (Post M) → List (Post (List Entry)) → Type 0
  SamePosts posts logs = (to : Process) → IsInside to → messages_to to posts ≡ map shown (messages_to to logs)

  pub record IsShown (did : ServerResult M) (log : ServerResult (List Entry)) : Type 0 where
    pub view : did.0 ≡ shown_view log.0
    pub posts : SamePosts did.1 log.1

  kept_if : (b : Bool) (m : LogMessage) (x : MessageOf M) (more : List LogMessage) (others : List (MessageOf M)) → x ≡ shown m → others ≡ map shown more
      → (if b then x ∷ others else others) ≡ map shown (if b then m ∷ more else more)
  kept_if true m x more others is same = λ i. is i ∷ same i
  kept_if false m x more others is same = same

  pub none_shown : SamePosts [] []
  none_shown to i = refl

  pub cons_shown : (receiver : Process) (m : LogMessage) (x : MessageOf M) (posts : List (Post M)) (logs : List (Post (List Entry))) → x ≡ shown m
      → SamePosts posts logs → SamePosts ((receiver, x) ∷ posts) ((receiver, m) ∷ logs)
  cons_shown receiver m x posts logs is same to i = kept_if (is_same to receiver) m x (messages_to to logs) (messages_to to posts) is (same to i)

  -- what is put for a client doesn't count
  here_shown : (c : ℕ) (x : MessageOf M) (posts : List (Post M)) (logs : List (Post (List Entry))) → SamePosts posts logs
      → SamePosts ((Client c, x) ∷ posts) logs
  here_shown c x posts logs same Master i = same Master i
  here_shown c x posts logs same (Server s) i = same (Server s) i
  here_shown c x posts logs same (Client d) i = absurd i

  there_shown : (c : ℕ) (m : LogMessage) (posts : List (Post M)) (logs : List (Post (List Entry))) → SamePosts posts logs
      → SamePosts posts ((Client c, m) ∷ logs)
  there_shown c m posts logs same Master i = same Master i
  there_shown c m posts logs same (Server s) i = same (Server s) i
  there_shown c m posts logs same (Client d) i = absurd i

  answers_shown : (e d : Entry) (reply other : Option Reply) (posts : List (Post M)) (logs : List (Post (List Entry))) → SamePosts posts logs
      → SamePosts (answer_posts e reply ++ posts) (answer_posts d other ++ logs)
  answers_shown e d None None posts logs same = same
  answers_shown e d (Some r) None posts logs same = here_shown e.client (message.Answer e.number r) posts logs same
  answers_shown e d None (Some q) posts logs same = there_shown d.client (message.Answer d.number q) posts logs same
  answers_shown e d (Some r) (Some q) posts logs same =
      here_shown e.client (message.Answer e.number r) posts ((Client d.client, message.Answer d.number q) ∷ logs)
      (there_shown d.client (message.Answer d.number q) posts logs same)

  acks_shown : (pred : Option Neighbour) (n : ℕ) → SamePosts (ack_posts pred n) (ack_posts pred n)
  acks_shown None n = none_shown
  acks_shown (Some pred) n = cons_shown (Server pred.0) (message.Ack pred.1 n) (message.Ack pred.1 n) [] [] refl none_shown

  forwards_shown : (succ : Neighbour) (sent : List (ℕ × Entry))
      → SamePosts (map (forward_post succ) (map shown_sent sent)) (map (forward_post succ) sent)
  forwards_shown succ [] = none_shown
  forwards_shown succ (s ∷ sent) =
      cons_shown (Server succ.0) (message.Update succ.1 s.0 s.1) (message.Update succ.1 s.0 (front_entry s.0 s.1))
      (map (forward_post succ) (map shown_sent sent)) (map (forward_post succ) sent) refl (forwards_shown succ sent)

  -- a condition is the same on both sides
  same_if : (b : Bool) (x y : ServerResult M) (p q : ServerResult (List Entry)) → (b ≡ true → IsShown x p) → IsShown y q
      → IsShown (if b then x else y) (if b then p else q)
  same_if true x y p q h k = h refl
  same_if false x y p q h k = k

  pub ignored : (v : ServerView (List Entry)) → IsShown (shown_view v, []) (v, [])
  ignored v = record { view = refl; posts = none_shown }

  module _ {P : Type 0} (plain : Plain P) where
    abbrev logs : Does (List Entry)
    logs = log_machine plain

    -- what is accepted
    accept_shown : (own : Log) (last : ℕ) (sent : List (ℕ × Entry)) (pred succ : Option Neighbour) (log : List Entry) (n : ℕ) (e : Entry)
        → n ≡ length log + 1
        → IsShown (accept_result machine (shown_view (view_of own last sent pred succ)) (machine_after log) n (front_entry n e))
        (accept_result logs (view_of own last sent pred succ) log n e)
    unfolding accept_result
    accept_shown own last sent pred None log n e next = record {
      view = λ i. record {
        machine = Some (sym (machine_more log e n next) i);
        last = n;
        sent = map shown_sent sent;
        pred = pred;
        succ = None;
      };
      posts = answers_shown (front_entry n e) e _ _ (ack_posts pred n) (ack_posts pred n) (acks_shown pred n);
    }
    accept_shown own last sent pred (Some succ) log n e next = record {
      view = λ i. record {
        machine = Some (sym (machine_more log e n next) i);
        last = n;
        sent = sym (map-append shown_sent sent ((n, e) ∷ [])) i;
        pred = pred;
        succ = Some succ;
      };
      posts = cons_shown (Server succ.0) (message.Update succ.1 n e) (message.Update succ.1 n (front_entry n e)) [] [] refl none_shown;
    }

    -- an update at a head
    pub submit_shown : (own : Log) (last : ℕ) (sent : List (ℕ × Entry)) (pred succ : Option Neighbour) (c : ℕ) (update : Update) → last ≡ length_of own
        → IsShown (submit_row machine (shown_view (view_of own last sent pred succ)) 0 (last + 1) update)
        (submit_row logs (view_of own last sent pred succ) c 1 update)
    unfolding submit_row
    submit_shown None last sent pred succ c update exact = ignored (view_of None last sent pred succ)
    submit_shown (Some log) last sent (Some pred) succ c update exact = ignored (view_of (Some log) last sent (Some pred) succ)
    submit_shown (Some log) last sent None succ c update exact =
        let v : ServerView (List Entry) = view_of (Some log) last sent None succ in
        let e : Entry = record { client = c; number = 1; update = update } in
        same_if (has_room v) (accept_result machine (shown_view v) (machine_after log) (last + 1) (front_entry (last + 1) e)) (no_effect (shown_view v))
        (accept_result logs v log (last + 1) e) (no_effect v)
        (λ t. accept_shown (Some log) last sent None succ log (last + 1) e (ap (λ l. l + 1) exact)) (ignored v)

    update_shown : (own : Log) (last : ℕ) (sent : List (ℕ × Entry)) (pred succ : Option Neighbour) (p epoch n : ℕ) (e : Entry) → last ≡ length_of own
        → IsShown (update_row machine (shown_view (view_of own last sent pred succ)) p epoch n (front_entry n e))
        (update_row logs (view_of own last sent pred succ) p epoch n e)
    unfolding update_row
    update_shown None last sent pred succ p epoch n e exact = ignored (view_of None last sent pred succ)
    update_shown (Some log) last sent pred succ p epoch n e exact =
        let v : ServerView (List Entry) = view_of (Some log) last sent pred succ in
        let w : ServerView M = shown_view v in
        let x : ServerResult M = accept_result machine w (machine_after log) n (front_entry n e) in
        let y : ServerResult (List Entry) = accept_result logs v log n e in
        same_if (is_neighbour pred p epoch)
        (if n == last + 1 then if has_room w then x else no_effect w else no_effect w) (no_effect w)
        (if n == last + 1 then if has_room v then y else no_effect v else no_effect v) (no_effect v)
        (λ near. same_if (n == last + 1)
        (if has_room w then x else no_effect w) (no_effect w)
        (if has_room v then y else no_effect v) (no_effect v)
        (λ next. same_if (has_room v) x (no_effect w) y (no_effect v)
        (λ room. accept_shown (Some log) last sent pred succ log n e (eqb-true n (last + 1) next ∙ ap (λ l. l + 1) exact)) (ignored v))
        (ignored v)) (ignored v)

    ack_shown : (v : ServerView (List Entry)) (t epoch n : ℕ) → IsShown (ack_row (shown_view v) t epoch n) (ack_row v t epoch n)
    unfolding ack_row
    ack_shown v t epoch n =
        let w : ServerView M = shown_view v in
        same_if (is_neighbour v.succ t epoch)
        (record w { sent = entries_above n w.sent }, ack_posts v.pred n) (no_effect w)
        (record v { sent = entries_above n v.sent }, ack_posts v.pred n) (no_effect v)
        (λ near. record { view = λ i. record w { sent = above_shown n v.sent i }; posts = acks_shown v.pred n }) (ignored v)

    snapshot_shown : (own : Log) (last : ℕ) (sent : List (ℕ × Entry)) (pred succ : Option Neighbour) (p epoch : ℕ) (transfer : Transfer (List Entry))
        → IsShown (snapshot_row (shown_view (view_of own last sent pred succ)) p epoch
        (record { last = transfer.last; machine = machine_after transfer.machine }))
        (snapshot_row (view_of own last sent pred succ) p epoch transfer)
    unfolding snapshot_row
    snapshot_shown (Some log) last sent pred succ p epoch transfer = ignored (view_of (Some log) last sent pred succ)
    snapshot_shown None last sent pred succ p epoch transfer =
        let v : ServerView (List Entry) = view_of None last sent pred succ in
        same_if (is_neighbour pred p epoch)
        (view_of (Some (machine_after transfer.machine)) transfer.last [] pred succ, (Server p, message.Ack epoch transfer.last) ∷ (Master, message.Joined epoch) ∷ [])
        (no_effect (shown_view v))
        (view_of (Some transfer.machine) transfer.last [] pred succ, (Server p, message.Ack epoch transfer.last) ∷ (Master, message.Joined epoch) ∷ [])
        (no_effect v)
        (λ near. record {
          view = refl;
          posts = cons_shown (Server p) (message.Ack epoch transfer.last) (message.Ack epoch transfer.last) ((Master, message.Joined epoch) ∷ [])
              ((Master, message.Joined epoch) ∷ []) refl (cons_shown Master (message.Joined epoch) (message.Joined epoch) [] [] refl none_shown);
        }) (ignored v)

    new_pred_shown : (own : Log) (last : ℕ) (sent : List (ℕ × Entry)) (pred succ : Option Neighbour) (epoch p : ℕ)
        → IsShown (new_pred_row (shown_view (view_of own last sent pred succ)) epoch p) (new_pred_row (view_of own last sent pred succ) epoch p)
    unfolding new_pred_row
    new_pred_shown None last sent pred succ epoch p =
        record { view = refl; posts = cons_shown Master (message.Have epoch None) (message.Have epoch None) [] [] refl none_shown }
    new_pred_shown (Some log) last sent pred succ epoch p =
        record { view = refl; posts = cons_shown Master (message.Have epoch (Some last)) (message.Have epoch (Some last)) [] [] refl none_shown }

    new_succ_shown : (own : Log) (last : ℕ) (sent : List (ℕ × Entry)) (pred succ : Option Neighbour) (epoch t : ℕ) (has : Option ℕ)
        → IsShown (new_succ_row (shown_view (view_of own last sent pred succ)) epoch t has) (new_succ_row (view_of own last sent pred succ) epoch t has)
    unfolding new_succ_row
    new_succ_shown None last sent pred succ epoch t has = ignored (view_of None last sent pred succ)
    new_succ_shown (Some log) last sent pred succ epoch t None = record {
      view = refl;
      posts = cons_shown (Server t) (message.Snapshot epoch (record { last = last; machine = log }))
          (message.Snapshot epoch (record { last = last; machine = machine_after log })) [] [] refl none_shown;
    }
    new_succ_shown (Some log) last sent pred succ epoch t (Some n) = record {
      view = refl;
      posts = subst (λ l. SamePosts (map (forward_post (t, epoch)) l) (map (forward_post (t, epoch)) (entries_above n sent))) (sym (above_shown n sent))
          (forwards_shown (t, epoch) (entries_above n sent));
    }

    new_tail_shown : (own : Log) (last : ℕ) (sent : List (ℕ × Entry)) (pred succ : Option Neighbour)
        → IsShown (become_tail_row (shown_view (view_of own last sent pred succ))) (become_tail_row (view_of own last sent pred succ))
    unfolding become_tail_row
    new_tail_shown None last sent pred succ = record { view = refl; posts = none_shown }
    new_tail_shown (Some log) last sent pred succ = record { view = refl; posts = acks_shown pred last }

    new_head_shown : (v : ServerView (List Entry)) → IsShown (become_head_row (shown_view v)) (become_head_row v)
    unfolding become_head_row
    new_head_shown v = record { view = refl; posts = none_shown }

    -- the table
    pub table_shown : (v : ServerView (List Entry)) (from : Process) → IsInside from → (m : LogMessage) → v.last ≡ length_of v.machine
        → IsShown (server_step machine (shown_view v) from (shown m)) (server_step logs v from m)
    unfolding server_step
    table_shown v (Client c) i m exact = absurd i
    table_shown v (Server p) i (message.Update epoch n e) exact = update_shown v.machine v.last v.sent v.pred v.succ p epoch n e exact
    table_shown v (Server t) i (message.Ack epoch n) exact = ack_shown v t epoch n
    table_shown v (Server p) i (message.Snapshot epoch transfer) exact = snapshot_shown v.machine v.last v.sent v.pred v.succ p epoch transfer
    table_shown v Master i (message.NewPred epoch p) exact = new_pred_shown v.machine v.last v.sent v.pred v.succ epoch p
    table_shown v Master i (message.NewSucc epoch t has) exact = new_succ_shown v.machine v.last v.sent v.pred v.succ epoch t has
    table_shown v Master i (message.BecomeHead epoch) exact = new_head_shown v
    table_shown v Master i (message.BecomeTail epoch) exact = new_tail_shown v.machine v.last v.sent v.pred v.succ
    table_shown v from i m exact = ignored v
