-- Each event of the chain preserves what is known of views and messages.
use Rattle.std.specs.Prelude.{is_none, not, if◌then◌else◌}
use Rattle.std.proofs.Common.{◌≡◌, ℕ, ◌+◌, ◌≤◌, Bool, true, false, List, [], ◌∷◌, ◌++◌, length, Option, Some, None, refl, sym, ap, ◌∙◌, subst, inl, inr, arith}
use Rattle.std.proofs.Common.{length-append}
use Rattle.zcalls.specs.declared.call.Entry.{Entry}
use Rattle.zcalls.specs.declared.call.Update.{Update}
use Rattle.zcalls.specs.Cached.{Plain}
use Rattle.zcalls.specs.Lists.{Among}
use Rattle.zcalls.proofs.Among.{test}
use Rattle.zprotocol.specs.declared.message.Message.TheVariants as message
use Rattle.zprotocol.specs.declared.process.Process.{Process}
use Rattle.zprotocol.specs.declared.process.Process.TheVariants.{Master, Server, Client}
use Rattle.zprotocol.specs.declared.world.event.Event.{Event}
use Rattle.zprotocol.specs.declared.world.event.Event.TheVariants.{Take, Ignore, Fail, Order}
use Rattle.zprotocol.specs.server.View.{ServerView, Neighbour, Post}
use Rattle.zprotocol.specs.server.Table as server
use Rattle.zprotocol.proofs.server_lemmas.Cases.{server_case}
use Rattle.zprotocol.specs.master.Table as master
use Rattle.zprotocol.specs.world.Links.{Links, put, without_front}
use Rattle.zprotocol.specs.world.Does.{Hear, server_effect, stop_effect, last_post}
use Rattle.zprotocol.specs.world.Events.{front_is, has_failed, is_enabled, did_in, does_in, front_step, acts}
use Rattle.zlinearizability.specs.legal.Prefix.{IsPrefix}
use Rattle.zlinearizability.specs.chain.Flow.{log_machine, LogWorld, LogMessage, Log}
use Rattle.zlinearizability.specs.chain.Last.{LastsAreLengths}
use Rattle.zlinearizability.specs.chain.Account.{Account, tail_log, committed_after, account_by, next_account}
use Rattle.zlinearizability.specs.chain.Sound.{IsSound}
use Rattle.zlinearizability.specs.Cuts.{Stays, cut}
use Rattle.zlinearizability.proofs.legal_lemmas.lists.Tests.{left_of}
use Rattle.zlinearizability.proofs.chain_lemmas.links.Links.{AllPosts, all_none, all_and, put_among, front_among, at_cases, at_same}
use Rattle.zlinearizability.proofs.chain_lemmas.tables.OtherPosts.{IsOrder, master_orders, order_orders}
use Rattle.zlinearizability.proofs.chain_lemmas.steps.Cuts.{cut_among}
use Rattle.zlinearizability.proofs.Runs.{each_event}
use Rattle.zheads.proofs.Known.{AllMade, IsKnownView, IsKnownMessage, view_later, row_known}

-- the facts of a run
pub record IsKnown (IsMade : ℕ → Update → Type 0) (t : Account) : Type 0 where
  pub views : (s : ℕ) → IsKnownView IsMade (length t.committed) (t.world.servers s)
  pub in_flight : (from to : Process) (m : LogMessage) → Among m (t.world.links from to) → IsKnownMessage IsMade (length t.committed) m
  pub committed : AllMade IsMade t.committed

-- a longer list
pub prefix_length : {A : Type 0} (xs ys : List A) → IsPrefix xs ys → length xs ≤ length ys
prefix_length xs ys (rest, is) =
    let size : length ys ≡ length (xs ++ rest) = ap length is in
    let sum : length (xs ++ rest) ≡ length xs + length rest = length-append xs rest in omega arith

-- a message stays known where more is committed, and more was made
pub message_later : (IsMade IsMadeLater : ℕ → Update → Type 0) (count later : ℕ) → ((n : ℕ) (u : Update) → IsMade n u → IsMadeLater n u) → count ≤ later
    → (m : LogMessage) → IsKnownMessage IsMade count m → IsKnownMessage IsMadeLater later m
message_later IsMade IsMadeLater count later more up (message.Ack epoch n) h = let le : n ≤ count = h in omega arith
message_later IsMade IsMadeLater count later more up (message.Update epoch n e) h = more n e.update h
message_later IsMade IsMadeLater count later more up (message.Snapshot epoch transfer) h = λ n e is. more n e.update (h n e is)
message_later IsMade IsMadeLater count later more up m h = tt

-- so does all of a run
pub known_more : (IsMade IsMadeLater : ℕ → Update → Type 0) (t : Account) → ((n : ℕ) (u : Update) → IsMade n u → IsMadeLater n u)
    → IsKnown IsMade t → IsKnown IsMadeLater t
known_more IsMade IsMadeLater t more known = record {
  views = λ s. let v = known.views s in
      record { released = v.released; blank = v.blank; made = λ log is n e entry. more n e.update (v.made log is n e entry) };
  in_flight = λ from to m a. message_later IsMade IsMadeLater (length t.committed) (length t.committed) more (omega arith) m
      (known.in_flight from to m a);
  committed = λ n e entry. more n e.update (known.committed n e entry);
}

-- channels lose their ends
pub known_cut : (IsMade : ℕ → Update → Type 0) (t : Account) (stays : Stays) → IsKnown IsMade t → IsKnown IsMade (record t { world = cut stays t.world })
known_cut IsMade t stays known = record {
  views = known.views;
  in_flight = λ from to m a. known.in_flight from to m (cut_among t.world stays from to m a);
  committed = known.committed;
}

-- what the log of a tail becomes
tail_commits : (v : ServerView (List Entry)) (old log : List Entry) → v.succ ≡ None → v.machine ≡ Some log → committed_after (tail_log v) old ≡ log
tail_commits v old log ends has =
    let tail : tail_log v ≡ Some log = ap (λ (s : Option Neighbour). if is_none s then v.machine else None) ends ∙ has in
    ap (λ (l : Log). committed_after l old) tail

committed_made : (IsMade : ℕ → Update → Type 0) (v : ServerView (List Entry)) (old : List Entry) → AllMade IsMade old
    → ((log : List Entry) → v.machine ≡ Some log → AllMade IsMade log) → AllMade IsMade (committed_after (tail_log v) old)
committed_made IsMade v old before own = by (is_none v.succ) v.machine own
  where
    by : (b : Bool) (machine : Log) → ((log : List Entry) → machine ≡ Some log → AllMade IsMade log)
        → AllMade IsMade (committed_after (if b then machine else None) old)
    by true (Some log) h = h log refl
    by true None h = before
    by false machine h = before

module _ {P : Type 0} (plain : Plain P) (IsMade : ℕ → Update → Type 0) where
  -- orders and configurations are known
  orders_known : (count : ℕ) (m : LogMessage) → IsOrder m → IsKnownMessage IsMade count m
  orders_known count (message.Ack epoch n) h = absurd h
  orders_known count (message.Update epoch n e) h = absurd h
  orders_known count (message.Snapshot epoch transfer) h = absurd h
  orders_known count m h = tt

  -- more is put
  put_known : (count : ℕ) (links : Links (List Entry)) (sender : Process) (posts : List (Post (List Entry))) → AllPosts (IsKnownMessage IsMade count) posts
      → ((from to : Process) (m : LogMessage) → Among m (links from to) → IsKnownMessage IsMade count m)
      → (from to : Process) (m : LogMessage) → Among m (put links sender posts from to) → IsKnownMessage IsMade count m
  put_known count links sender posts new old from to m a =
      elim (put_among links sender posts from to m a) [ inl b ↦ old from to m b | inr p ↦ new (to, m) p.1 ]

  -- a server stops
  gone_known : (count : ℕ) → AllPosts (IsKnownMessage IsMade count) (last_post {M = List Entry})
  gone_known count = all_and (IsKnownMessage IsMade count) (Master, message.Gone) [] tt (all_none (IsKnownMessage IsMade count))

  module _ (t : Account) (exact : LastsAreLengths t.world) (s : IsSound plain t) (known : IsKnown IsMade t) (from : Process) (y : ℕ) where
    -- the world without the front, and after a row
    abbrev popped : LogWorld
    popped = record t.world { links = without_front t.world.links from (Server y) }

    abbrev did : LogMessage → server.ServerResult (List Entry)
    did m = server.server_step (log_machine plain) (t.world.servers y) from m

    abbrev after_row : LogMessage → LogWorld
    after_row m = did_in popped (Server y) (server_effect (did m))

    -- a row
    row_at : (m : LogMessage) → Among m (t.world.links from (Server y))
        → ((c number : ℕ) (update : Update) → from ≡ Client c → m ≡ message.Submit number update → IsMade ((t.world.servers y).last + 1) update)
        → (u : Account) → u.world ≡ after_row m → u.committed ≡ committed_after (tail_log (did m).0) t.committed
        → IsPrefix t.committed u.committed → IsKnown IsMade u
    row_at m a submitted u world committed begins =
        let v = t.world.servers y in
        let up : length t.committed ≤ length u.committed = prefix_length t.committed u.committed begins in
        let row = row_known plain IsMade (length t.committed) (length u.committed) up v from m (did m)
        (server_case (log_machine plain) v from m) (exact.views y) (exact.under_way from (Server y) m a)
        (λ log n e has b. s.sent y log n e has b) submitted
        (λ log ends has. let is : length u.committed ≡ length log = ap length (committed ∙ tail_commits (did m).0 t.committed log ends has) in omega arith)
        (known.views y) (known.in_flight from (Server y) m a) in
        record {
          views = λ x. subst (λ (w : LogWorld). IsKnownView IsMade (length u.committed) (w.servers x)) (sym world)
              (at_cases (IsKnownView IsMade (length u.committed)) y (did m).0 t.world.servers x (λ e. row.0)
              (λ f. view_later plain IsMade (length t.committed) (length u.committed) up (t.world.servers x) (known.views x)));
          in_flight = λ p q x b. put_known (length u.committed) popped.links (Server y) (did m).1 row.1
              (λ p' q' x' b'. message_later IsMade IsMade (length t.committed) (length u.committed) (λ n e h. h) up x'
              (known.in_flight p' q' x' (front_among t.world.links from (Server y) p' q' x' b'))) p q x
              (subst (λ (w : LogWorld). Among x (w.links p q)) world b);
          committed = subst (AllMade IsMade) (sym committed) (committed_made IsMade (did m).0 t.committed known.committed row.0.made);
        }

    -- the server leaves
    stop_at : (u : Account) → u.world ≡ did_in popped (Server y) stop_effect → u.committed ≡ committed_after (tail_log (t.world.servers y)) t.committed
        → IsPrefix t.committed u.committed → IsKnown IsMade u
    stop_at u world committed begins =
        let up : length t.committed ≤ length u.committed = prefix_length t.committed u.committed begins in
        record {
          views = λ x. subst (λ (w : LogWorld). IsKnownView IsMade (length u.committed) (w.servers x)) (sym world)
              (view_later plain IsMade (length t.committed) (length u.committed) up (t.world.servers x) (known.views x));
          in_flight = λ p q x b. put_known (length u.committed) popped.links (Server y) last_post (gone_known (length u.committed))
              (λ p' q' x' b'. message_later IsMade IsMade (length t.committed) (length u.committed) (λ n e h. h) up x'
              (known.in_flight p' q' x' (front_among t.world.links from (Server y) p' q' x' b'))) p q x
              (subst (λ (w : LogWorld). Among x (w.links p q)) world b);
          committed = subst (AllMade IsMade) (sym committed)
              (committed_made IsMade (t.world.servers y) t.committed known.committed (known.views y).made);
        }

    -- the event as a row, or as a stop
    abbrev event : Event
    event = Take from (Server y)

    abbrev N : Account
    N = next_account plain t event

    heard : (m : LogMessage) (w : LogWorld) (v : ServerView (List Entry))
        → N ≡ account_by plain t event (does_in (log_machine plain) popped (Server y) (Hear from m))
        → does_in (log_machine plain) popped (Server y) (Hear from m) ≡ w → w.servers y ≡ v
        → N.committed ≡ committed_after (tail_log v) t.committed
    heard m w v whole world view =
        ap (λ (u : Account). u.committed) whole
        ∙ ap (λ (x : LogWorld). committed_after (tail_log (x.servers y)) t.committed) world
        ∙ ap (λ (x : ServerView (List Entry)). committed_after (tail_log x) t.committed) view

    chosen : (m : LogMessage) (b : Bool) → server.is_retirement from m ≡ b
        → does_in (log_machine plain) popped (Server y) (Hear from m) ≡ did_in popped (Server y) (if b then stop_effect else server_effect (did m))
    chosen m b is = ap (λ c. did_in popped (Server y) (if c then stop_effect else server_effect (did m))) is

    fronted : (m : LogMessage) (rest : List LogMessage) → t.world.links from (Server y) ≡ m ∷ rest → is_enabled t.world event ≡ true
        → N ≡ account_by plain t event (does_in (log_machine plain) popped (Server y) (Hear from m))
    fronted m rest is e =
        ap (λ b. if b then account_by plain t event (acts (log_machine plain) t.world event) else t) e
        ∙ ap (λ l. account_by plain t event (front_step (log_machine plain) t.world from (Server y) l)) is

    -- a server takes a message
    pub take_known : ((m : LogMessage) → Among m (t.world.links from (Server y)) → (c number : ℕ) (update : Update) → from ≡ Client c
        → m ≡ message.Submit number update → IsMade ((t.world.servers y).last + 1) update)
        → IsKnown IsMade N
    take_known submitted = elim (test (is_enabled t.world event)) [
      | inl e ↦ by (t.world.links from (Server y)) refl e
      | inr f ↦ subst (IsKnown IsMade)
          (sym (ap (λ b. if b then account_by plain t event (acts (log_machine plain) t.world event) else t) f)) known
    ]
      where
        by : (link : List LogMessage) → t.world.links from (Server y) ≡ link → is_enabled t.world event ≡ true → IsKnown IsMade N
        by [] is e = absurd (let none : ◌≡◌ {A = Bool} false true = sym (ap (front_is (λ m. true)) is)
            ∙ left_of (front_is (λ m. true) (t.world.links from (Server y))) (not (has_failed t.world (Server y))) e in cc none)
        by (m ∷ rest) is e =
            let begins = (each_event plain event t exact s).1 in
            let whole = fronted m rest is e in
            let a : Among m (t.world.links from (Server y)) = subst (Among m) (sym is) (inl refl) in
            elim (test (server.is_retirement from m)) [
              | inl r ↦
                  let world = chosen m true r in
                  stop_at N (ap (λ (u : Account). u.world) whole ∙ world) (heard m (did_in popped (Server y) stop_effect) (t.world.servers y) whole world refl) begins
              | inr f ↦
                  let world = chosen m false f in
                  row_at m a (submitted m a) N (ap (λ (u : Account). u.world) whole ∙ world)
                  (heard m (after_row m) (did m).0 whole world (at_same y (did m).0 t.world.servers)) begins
            ]

  -- what the master does
  known_orders : (t u : Account) (links : Links (List Entry)) (posts : List (Post (List Entry))) → AllPosts IsOrder posts
      → ((from to : Process) (m : LogMessage) → Among m (links from to) → Among m (t.world.links from to))
      → (λ (s : ℕ). u.world.servers s) ≡ t.world.servers → u.world.links ≡ put links Master posts → u.committed ≡ t.committed
      → IsKnown IsMade t → IsKnown IsMade u
  known_orders t u links posts orders old views in_flight committed known = record {
    views = λ s. subst (λ (c : List Entry). IsKnownView IsMade (length c) (u.world.servers s)) (sym committed)
        (subst (λ (v : ℕ → ServerView (List Entry)). IsKnownView IsMade (length t.committed) (v s)) (sym views) (known.views s));
    in_flight = λ p q m a. subst (λ (c : List Entry). IsKnownMessage IsMade (length c) m) (sym committed)
        (put_known (length t.committed) links Master posts (λ post b. orders_known (length t.committed) post.1 (orders post b))
        (λ p' q' x b. known.in_flight p' q' x (old p' q' x b)) p q m (subst (λ (l : Links (List Entry)). Among m (l p q)) in_flight a));
    committed = subst (AllMade IsMade) (sym committed) known.committed;
  }

  module _ (t : Account) (known : IsKnown IsMade t) where
    -- an event that commits nothing, and whose world is known
    quiet : (event : Event) → ((e : is_enabled t.world event ≡ true) → IsKnown IsMade (account_by plain t event (acts (log_machine plain) t.world event)))
        → IsKnown IsMade (next_account plain t event)
    quiet event h = elim (test (is_enabled t.world event)) [ inl e ↦ rw e (h e) | inr f ↦ rw f known ]

    pub order_known : (order : _) → IsKnown IsMade (next_account plain t (Order order))
    order_known order = quiet (Order order) (λ e. known_orders t _ t.world.links (master.order_step t.world.master order).1
        (order_orders t.world.master order) (λ p q m a. a) refl refl refl known)

    pub fail_known : (x : ℕ) → IsKnown IsMade (next_account plain t (Fail x))
    fail_known x = quiet (Fail x) (λ e. record {
      views = known.views;
      in_flight = put_known (length t.committed) t.world.links (Server x) last_post (gone_known (length t.committed)) known.in_flight;
      committed = known.committed;
    })

    pub hear_known : (from : Process) → IsKnown IsMade (next_account plain t (Take from Master))
    hear_known from = quiet (Take from Master) (λ e. by (t.world.links from Master))
      where
        by : (link : List LogMessage) → IsKnown IsMade (account_by plain t (Take from Master) (front_step (log_machine plain) t.world from Master link))
        by [] = record { views = known.views; in_flight = known.in_flight; committed = known.committed }
        by (m ∷ rest) = known_orders t _ (without_front t.world.links from Master) (master.master_step t.world.master from m).1
            (master_orders t.world.master from m) (λ p q x a. front_among t.world.links from Master p q x a) refl refl refl known

    pub ignore_known : (from to : Process) → IsKnown IsMade (next_account plain t (Ignore from to))
    ignore_known from to = quiet (Ignore from to) (λ e. record {
      views = known.views;
      in_flight = λ p q m a. known.in_flight p q m (front_among t.world.links from to p q m a);
      committed = known.committed;
    })
