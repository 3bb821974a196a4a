-- In every run from an opening all that is on links is between processes of the world.
use Rattle.std.proofs.Common.{◌≡◌, ℕ, ◌+◌, Bool, true, false, if◌then◌else◌, nat_lt, ◌==◌, List, [], ◌∷◌, ◌++◌, Some}
use Rattle.std.proofs.Common.{None, refl, sym, ap, subst, ◌∙◌, inl, inr, eqb-true}
use mathlib.Core.Bool.{true≢false}
use Rattle.std.specs.Prelude.{◌&&◌, not, drop, is_some}
use Rattle.std.specs.List.{AllByRecursion}
use Rattle.zcalls.specs.declared.call.Call.{Call}
use Rattle.zcalls.specs.Lists.{Among}
use Rattle.zcalls.proofs.Among.{test, among_cases}
use Rattle.zprotocol.specs.declared.message.Message.TheVariants as message
use Rattle.zprotocol.specs.declared.process.Process.{Process}
use Rattle.zprotocol.specs.declared.process.Process.TheVariants.{Master, Server, Client}
use Rattle.zprotocol.specs.server.Machine.{Does}
use Rattle.zprotocol.specs.server.View.{ServerView, Transfer, MessageOf, Post, spare}
use Rattle.zprotocol.specs.server.Table.{is_retirement, server_step}
use Rattle.zprotocol.proofs.server_lemmas.Cases.{server_case}
use Rattle.zprotocol.specs.master.View.{MasterView}
use Rattle.zprotocol.specs.master.Order.{server_of}
use Rattle.zprotocol.specs.master.Table.{master_step, order_step}
use Rattle.zprotocol.proofs.master_lemmas.Cases.{master_case}
use Rattle.zprotocol.specs.client.View.{ClientView}
use Rattle.zprotocol.specs.client.Table.{ClientResult, client_step, begin_step, retry_posts}
use Rattle.zprotocol.specs.client.support.Cases as client
use Rattle.zprotocol.proofs.client_lemmas.Cases.{client_case}
use Rattle.zprotocol.specs.declared.world.event.Event.{Event}
use Rattle.zprotocol.specs.declared.world.event.Event.TheVariants.{Begin, Retry, Take, Ignore, Fail, Order}
use Rattle.zprotocol.specs.world.Links.{Links, put, without_front, is_same, messages_to}
use Rattle.zprotocol.specs.world.World.{World, at}
use Rattle.zprotocol.specs.Places.{is_server}
use Rattle.zprotocol.specs.world.History.{History}
use Rattle.zprotocol.specs.world.Does as given
use Rattle.zprotocol.specs.declared.world.history.CallEvent.TheVariants as call_event
use Rattle.zprotocol.specs.world.Does.{AtClient, Hear, server_effect, stop_effect, answer_reported}
use Rattle.zprotocol.specs.world.Events.{has_failed, is_enabled, did_in, does_in, front_step, acts, let_go, happens, run}
use Rattle.zprotocol.proofs.world_lemmas.Effects.{by_choice}
use Rattle.zprotocol.specs.world.support.Within.{is_process, SpeaksWithin, GoesWithin, IsViewWithin, IsClientWithin, AreLinksWithin, IsWithin}
use Rattle.zprotocol.proofs.world_lemmas.Processes.{same_process}
use Rattle.zprotocol.proofs.world_lemmas.Tests.{both}
use Rattle.zprotocol.proofs.world_lemmas.WithinTables.{row_within, outstanding_within, IsMasterWithin, master_within, order_within}

-- one value of a family is replaced
each_at : {V : Type 0} (P : ℕ → V → Type 0) (i : ℕ) (v : V) (family : ℕ → V) → P i v → ((m : ℕ) → P m (family m)) → (m : ℕ) → P m (at i v family m)
each_at P i v family new old m = elim (test (m == i)) [
  | inl is ↦ rw is (subst (λ x. P x v) (sym (eqb-true m i is)) new)
  | inr not ↦ rw not (old m)
]

-- what is after the front was there
behind_front : {A : Type 0} (x : A) (xs : List A) → Among x (drop 1 xs) → Among x xs
behind_front x [] among = among
behind_front x (y ∷ ys) among = inr among

-- a client of the world waits for what it likes
waits_any : (n c : ℕ) (v : ClientView) → nat_lt c n ≡ true → nat_lt c n ≡ false → v.outstanding ≡ None
waits_any n c v is beyond = absurd (true≢false (sym is ∙ beyond))

module _ (M : Type 0) (n : ℕ) where
  -- what is addressed to a process, by the test of the first post
  addressed_by : (to : Process) (post : Post M) (more : List (MessageOf M)) (m : MessageOf M) → GoesWithin n post
      → (Among m more → (is_process n to ≡ true) × SpeaksWithin n m) → (b : Bool) → is_same to post.0 ≡ b
      → Among m (if b then post.1 ∷ more else more)
      → (is_process n to ≡ true) × SpeaksWithin n m
  addressed_by to post more m goes rest true is (inl e) =
      (subst (λ p. is_process n p ≡ true) (sym (same_process to post.0 is)) goes.0, subst (SpeaksWithin n) e goes.1)
  addressed_by to post more m goes rest true is (inr among) = rest among
  addressed_by to post more m goes rest false is among = rest among

  addressed_within : (to : Process) (posts : List (Post M)) → AllByRecursion (GoesWithin n) posts → (m : MessageOf M) → Among m (messages_to to posts)
      → (is_process n to ≡ true) × SpeaksWithin n m
  addressed_within to [] all m among = absurd among
  addressed_within to (post ∷ posts) all m among =
      addressed_by to post (messages_to to posts) m all.0 (addressed_within to posts all.1 m) (is_same to post.0) refl among

  -- what a process of the world puts
  put_within : (links : Links M) (sender : Process) (posts : List (Post M)) → AreLinksWithin n links → is_process n sender ≡ true
      → AllByRecursion (GoesWithin n) posts → AreLinksWithin n (put links sender posts)
  put_within links sender posts within known all from to m = put_by (is_same from sender) refl
    where
      put_by : (b : Bool) → is_same from sender ≡ b → Among m (if b then links from to ++ messages_to to posts else links from to)
          → (is_process n from ≡ true) × (is_process n to ≡ true) × SpeaksWithin n m
      put_by true is among = elim (among_cases m (links from to) (messages_to to posts) among) [
        | inl old ↦ within from to m old
        | inr new ↦
            let goes = addressed_within to posts all m new in
            (subst (λ p. is_process n p ≡ true) (sym (same_process from sender is)) known, goes.0, goes.1)
      ]
      put_by false is among = within from to m among

  -- a front that is taken
  front_within : (links : Links M) (sender taker : Process) → AreLinksWithin n links → AreLinksWithin n (without_front links sender taker)
  front_within links sender taker within from to m = front_by (is_same from sender && is_same to taker)
    where
      front_by : (b : Bool) → Among m (if b then drop 1 (links from to) else links from to)
          → (is_process n from ≡ true) × (is_process n to ≡ true) × SpeaksWithin n m
      front_by true among = within from to m (behind_front m (links from to) among)
      front_by false among = within from to m among

  -- a server acts
  server_acts : (w : World M) (s : ℕ) (did : ServerView M × List (Post M)) → IsWithin n w → is_server s ≡ true
      → IsViewWithin n did.0 × AllByRecursion (GoesWithin n) did.1
      → IsWithin n (record w { servers = at s did.0 w.servers; links = put w.links (Server s) did.1 })
  server_acts w s did within is good = record {
    counted = within.counted;
    chain = within.chain;
    used = within.used;
    views = each_at (λ s view. IsViewWithin n view) s did.0 w.servers good.0 within.views;
    callers = within.callers;
    sent = put_within w.links (Server s) did.1 within.sent is good.1;
  }

  -- the master acts
  master_acts : (w : World M) (did : MasterView × List (Post M)) → IsWithin n w → IsMasterWithin n did.0 × AllByRecursion (GoesWithin n) did.1
      → IsWithin n (record w { master = did.0; links = put w.links Master did.1 })
  master_acts w did within good = record {
    counted = good.0.counted;
    chain = good.0.chain;
    used = good.0.used;
    views = within.views;
    callers = within.callers;
    sent = put_within w.links Master did.1 within.sent refl good.1;
  }

  -- a client acts
  client_acts : (w : World M) (c : ℕ) (view : ClientView) (posts : List (Post M)) (reported : History) → IsWithin n w → nat_lt c n ≡ true
      → IsClientWithin n c view → AllByRecursion (GoesWithin n) posts
      → IsWithin n (did_in w (Client c) (record { left = AtClient view; posts = posts; reported = reported }))
  client_acts w c view posts reported within is good all = record {
    counted = within.counted;
    chain = within.chain;
    used = within.used;
    views = within.views;
    callers = each_at (IsClientWithin n) c view w.clients good within.callers;
    sent = put_within w.links (Client c) posts within.sent is all;
  }

  -- a client's row
  client_row : (c : ℕ) (v : ClientView) → nat_lt c n ≡ true → IsClientWithin n c v
      → (from : Process) (m : MessageOf M) (r : ClientResult (Transfer M))
      → SpeaksWithin n m → client.IsClientRow v from m r → IsClientWithin n c r.0 × AllByRecursion (GoesWithin n) r.1
  client_row c v is good _ _ _ speaks (client.Ignores from m) = (good, tt)
  client_row c v is good _ _ _ speaks (client.Answers s number call reply waits) =
      (record { named_head = good.named_head; named_tail = good.named_tail; waits_not = λ not. refl }, tt)
  client_row c v is good _ _ _ speaks (client.Configures epoch head tail later) = (
    record { named_head = speaks.0; named_tail = speaks.1; waits_not = waits_any n c (client.with_config v epoch head tail) is },
    outstanding_within M n (client.with_config v epoch head tail) v.outstanding speaks.0 speaks.1,
  )

  -- a server that stops
  stops_within : (w : World M) (s : ℕ) → IsWithin n w → is_server s ≡ true → IsWithin n (did_in w (Server s) stop_effect)
  stops_within w s within is = record {
    counted = within.counted;
    chain = within.chain;
    used = within.used;
    views = within.views;
    callers = within.callers;
    sent = put_within w.links (Server s) ((Master, message.Gone) ∷ []) within.sent is ((refl, tt), tt);
  }

  module _ (machine : Does M) where
    -- a process takes a message
    taken_within : (w : World M) (from to : Process) (m : MessageOf M) → IsWithin n w → is_process n from ≡ true
        → is_process n to ≡ true → SpeaksWithin n m
        → IsWithin n (does_in machine w to (Hear from m))
    taken_within w from Master m within sender taker speaks =
        master_acts w (master_step w.master from m) within
        (master_within M n w.master (record { counted = within.counted; chain = within.chain; used = within.used }) from
        m (master_step w.master from m) sender (master_case w.master from m))
    taken_within w from (Server s) m within sender taker speaks =
        by_choice (IsWithin n) (is_retirement from m) w (Server s) stop_effect (server_effect (server_step machine (w.servers s) from m))
        (stops_within w s within taker)
        (server_acts w s (server_step machine (w.servers s) from m) within taker
        (row_within M n machine (w.servers s) (within.views s) from m (server_step machine (w.servers s) from m) sender
        speaks (server_case machine (w.servers s) from m)))
    taken_within w from (Client c) m within sender taker speaks =
        let did : ClientResult (Transfer M) = client_step (w.clients c) from m in
        let good = client_row c (w.clients c) taker (within.callers c) from m did speaks (client_case (w.clients c) from m) in
        client_acts w c did.0 did.1 (answer_reported c did.2) within taker good.0 good.1

    front_taken : (w : World M) (from to : Process) (link : List (MessageOf M)) → w.links from to ≡ link → IsWithin n w
        → IsWithin n (front_step machine w from to link)
    front_taken w from to [] is within = within
    front_taken w from to (m ∷ more) is within =
        let known = within.sent from to m (subst (Among m) (sym is) (inl refl)) in
        let left : IsWithin n (record w { links = without_front w.links from to }) = record {
          counted = within.counted;
          chain = within.chain;
          used = within.used;
          views = within.views;
          callers = within.callers;
          sent = front_within w.links from to within.sent;
        } in
        taken_within (record w { links = without_front w.links from to }) from to m left known.0 known.1 known.2

    -- a client that waits is one of the world's
    waits_within : (c : ℕ) (v : ClientView) → IsClientWithin n c v → is_some v.outstanding ≡ true → nat_lt c n ≡ true
    waits_within c v good waits = elim (test (nat_lt c n)) [
      | inl is ↦ is
      | inr not ↦ absurd (true≢false (sym waits ∙ ap is_some (good.waits_not not)))
    ]

    -- what a client puts at a call and at a retry
    begun_within : (w : World M) (c : ℕ) (call : Call) → IsWithin n w → nat_lt c n ≡ true
        → IsWithin n (does_in machine w (Client c) (given.Begin call))
    unfolding begin_step
    begun_within w c call within is =
        let v : ClientView = record (w.clients c) { number = (w.clients c).number + 1; outstanding = Some ((w.clients c).number + 1, call) } in
        client_acts w c v _ (call_event.Begin c v.number call ∷ []) within is
        (record { named_head = (within.callers c).named_head; named_tail = (within.callers c).named_tail; waits_not = waits_any n c v is })
        (outstanding_within M n v v.outstanding (within.callers c).named_head (within.callers c).named_tail)

    retried_within : (w : World M) (c : ℕ) → IsWithin n w → nat_lt c n ≡ true → IsWithin n (does_in machine w (Client c) given.Retry)
    unfolding retry_posts
    retried_within w c within is =
        client_acts w c (w.clients c) _ [] within is (within.callers c)
        (outstanding_within M n (w.clients c) (w.clients c).outstanding (within.callers c).named_head (within.callers c).named_tail)

    -- what an enabled event does
    acts_within : (w : World M) (event : Event) → IsWithin n w → is_enabled w event ≡ true → IsWithin n (acts machine w event)
    acts_within w (Begin c call) within enabled =
        begun_within w c call within (sym (ap (λ k. nat_lt c k) within.counted) ∙ (both (nat_lt c w.master.clients) _ enabled).0)
    acts_within w (Retry c) within enabled = retried_within w c within (waits_within c (w.clients c) (within.callers c) enabled)
    acts_within w (Take from to) within enabled = front_taken w from to (w.links from to) refl within
    acts_within w (Ignore from to) within enabled = record {
      counted = within.counted;
      chain = within.chain;
      used = within.used;
      views = within.views;
      callers = within.callers;
      sent = front_within w.links from to within.sent;
    }
    acts_within w (Fail s) within enabled = stops_within w s within (both (is_server s) _ enabled).0
    acts_within w (Order order) within enabled =
        let same : IsMasterWithin n w.master = record { counted = within.counted; chain = within.chain; used = within.used } in
        master_acts w (order_step w.master order) within (order_within M n w.master order same (both (is_server (server_of order)) _ enabled).0)

    -- what is left where failed servers let go
    view_left : (b : Bool) (v : ServerView M) → IsViewWithin n v → IsViewWithin n (if b then spare else v)
    view_left true v within = record { near_pred = tt; near_succ = tt; of_clients = tt }
    view_left false v within = within

    link_left : (b : Bool) (m : MessageOf M) (link : List (MessageOf M)) → Among m (if b then [] else link) → Among m link
    link_left true m link among = absurd among
    link_left false m link among = among

    left_within : (w : World M) → IsWithin n w → IsWithin n (let_go w)
    left_within w within = record {
      counted = within.counted;
      chain = within.chain;
      used = within.used;
      views = λ s. view_left (w.failed s) (w.servers s) (within.views s);
      callers = within.callers;
      sent = λ from to m among. within.sent from to m (link_left (has_failed w to) m (w.links from to) among);
    }

    -- an event, and a run
    happens_within : (w : World M) (event : Event) → IsWithin n w → IsWithin n (happens machine w event)
    happens_within w event within = elim (test (is_enabled w event)) [
      | inl enabled ↦ rw enabled (left_within (acts machine w event) (acts_within w event within enabled))
      | inr not ↦ rw not within
    ]

    pub run_within : (w : World M) (events : List Event) → IsWithin n w → IsWithin n (run machine w events)
    run_within w [] within = within
    run_within w (event ∷ events) within = run_within (happens machine w event) events (happens_within w event within)
