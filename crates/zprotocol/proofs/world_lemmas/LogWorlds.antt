-- A world whose machines are mapped continues as the world does, by a map that preserves what
-- machines do.
use Rattle.std.proofs.Common.{◌≡◌, ℕ, ◌+◌, ◌-◌, Bool, true, false, if◌then◌else◌, List, [], ◌∷◌, ◌++◌, map}
use Rattle.std.proofs.Common.{Option, Some, None, refl, sym, ap, ◌∙◌}
use Rattle.std.proofs.lemmas.List.{map-append, drop-map}
use Rattle.std.specs.Prelude.{◌&&◌, not, ◌==◌, drop, nat_lt}
use Rattle.zprotocol.specs.declared.message.Message.TheVariants as message
use Rattle.zprotocol.specs.declared.process.Process.{Process}
use Rattle.zprotocol.specs.declared.process.Process.TheVariants.{Master, Server, Client}
use Rattle.zprotocol.specs.server.Machine.{Does}
use Rattle.zprotocol.specs.server.View.{ServerView, Neighbour, Transfer, MessageOf, Post, spare, opening_server}
use Rattle.zprotocol.specs.server.Table as server
use Rattle.zprotocol.specs.server.support.Homomorphism.{IsHomomorphism, message_with, posts_with, view_with, server_result_with}
use Rattle.zprotocol.proofs.server_lemmas.Projection.{table_with}
use Rattle.zprotocol.specs.master.Table as master
use Rattle.zprotocol.specs.master.Laws.{master_result_with as master_with}
use Rattle.zprotocol.proofs.master_lemmas.Projection.{table_with as master_takes_with, order_with as orders_with}
use Rattle.zprotocol.specs.client.View.{ClientView}
use Rattle.zprotocol.specs.client.Table as client
use Rattle.zprotocol.proofs.client_lemmas.Projection.{begins_with, retries_with, table_with as client_takes_with}
use Rattle.zprotocol.specs.declared.world.event.Event.{Event}
use Rattle.zprotocol.specs.declared.world.event.Event.TheVariants.{Begin, Retry, Take, Ignore, Fail, Order}
use Rattle.zprotocol.specs.world.Links.{Links, put, without_front, is_same, messages_to}
use Rattle.zprotocol.specs.world.World.{World, at, opening_world}
use Rattle.zprotocol.specs.world.Does.{AtClient, Hear, Effect, master_effect, server_effect, stop_effect, client_effect}
use Rattle.zprotocol.specs.world.Does.{begin_effect, answer_reported, last_post}
use Rattle.zprotocol.specs.declared.world.history.CallEvent.TheVariants as call_event
use Rattle.zprotocol.specs.world.History.{History}
use Rattle.zprotocol.specs.world.Events.{front_is, is_request, has_failed, is_enabled, goes_on, did_in, does_in, front_step, acts, let_go, happens, run}
use Rattle.zprotocol.specs.world.support.LogWorld.{world_with}

module _ {M N : Type 0} (h : M → N) where
  -- links with mapped messages
  abbrev links_with : Links M → Links N
  links_with links from to = map (message_with h) (links from to)

  -- what is addressed to a receiver
  kept_if : (b : Bool) (post : MessageOf M) (more : List (MessageOf M)) (others : List (MessageOf N)) → others ≡ map (message_with h) more
      → (if b then message_with h post ∷ others else others) ≡ map (message_with h) (if b then post ∷ more else more)
  kept_if true post more others same = ap (λ rest. message_with h post ∷ rest) same
  kept_if false post more others same = same

  addressed_with : (to : Process) (posts : List (Post M)) → messages_to to (posts_with h posts) ≡ map (message_with h) (messages_to to posts)
  addressed_with to [] = refl
  addressed_with to (post ∷ posts) = kept_if (is_same to post.0) post.1 (messages_to to posts) (messages_to to (posts_with h posts))
      (addressed_with to posts)

  -- what is put
  put_if : (b : Bool) (link more : List (MessageOf M)) (others : List (MessageOf N)) → others ≡ map (message_with h) more
      → (if b then map (message_with h) link ++ others else map (message_with h) link) ≡ map (message_with h) (if b then link ++ more else link)
  put_if true link more others same = ap (λ rest. map (message_with h) link ++ rest) same ∙ sym (map-append (message_with h) link more)
  put_if false link more others same = refl

  put_with : (links : Links M) (sender : Process) (posts : List (Post M)) (from to : Process)
      → put (links_with links) sender (posts_with h posts) from to ≡ map (message_with h) (put links sender posts from to)
  put_with links sender posts from to = put_if (is_same from sender) (links from to) (messages_to to posts)
      (messages_to to (posts_with h posts)) (addressed_with to posts)

  -- a front that is taken
  front_if : (b : Bool) (link : List (MessageOf M))
      → (if b then drop 1 (map (message_with h) link) else map (message_with h) link) ≡ map (message_with h) (if b then drop 1 link else link)
  front_if true link = drop-map (message_with h) 1 link
  front_if false link = refl

  front_with : (links : Links M) (sender taker from to : Process)
      → without_front (links_with links) sender taker from to ≡ map (message_with h) (without_front links sender taker from to)
  front_with links sender taker from to = front_if (is_same from sender && is_same to taker) (links from to)

  -- the world without the front of a link
  popped_with : (w : World M) (from to : Process)
      → record (world_with h w) { links = without_front (links_with w.links) from to }
      ≡ world_with h (record w { links = without_front w.links from to })
  popped_with w from to = λ i. record (world_with h w) { links = λ p q. front_with w.links from to p q i }

  -- what each process does
  at_if : (b : Bool) (new old : ServerView M) → (if b then view_with h new else view_with h old) ≡ view_with h (if b then new else old)
  at_if true new old = refl
  at_if false new old = refl

  server_does_with : (w : World M) (s : ℕ) (did : server.ServerResult M)
      → did_in (world_with h w) (Server s) (server_effect (server_result_with h did)) ≡ world_with h (did_in w (Server s) (server_effect did))
  server_does_with w s did = λ i. record (world_with h w) {
    servers = λ t. at_if (t == s) did.0 (w.servers t) i;
    links = λ from to. put_with w.links (Server s) did.1 from to i;
  }

  master_does_with : (w : World M) (did : master.MasterResult (Transfer M))
      → did_in (world_with h w) Master (master_effect (master_with h did)) ≡ world_with h (did_in w Master (master_effect did))
  master_does_with w did = λ i. record (world_with h w) { master = did.0; links = λ from to. put_with w.links Master did.1 from to i }

  client_does_with : (w : World M) (c : ℕ) (view : ClientView) (posts : List (Post M)) (reported : History)
      → did_in (world_with h w) (Client c) (record { left = AtClient view; posts = posts_with h posts; reported = reported })
      ≡ world_with h (did_in w (Client c) (record { left = AtClient view; posts = posts; reported = reported }))
  client_does_with w c view posts reported = λ i. record (world_with h w) {
    clients = at c view w.clients;
    links = λ from to. put_with w.links (Client c) posts from to i;
    history = goes_on w.history reported;
  }

  stops_with : (w : World M) (s : ℕ) → did_in (world_with h w) (Server s) stop_effect ≡ world_with h (did_in w (Server s) stop_effect)
  stops_with w s = λ i. record (world_with h w) { failed = at s true w.failed; links = λ from to. put_with w.links (Server s) last_post from to i }

  -- the front of a link passes the same tests
  request_with : (m : MessageOf M) → is_request (message_with h m) ≡ is_request m
  request_with (message.Submit number update) = refl
  request_with (message.Query number query) = refl
  request_with (message.Answer number reply) = refl
  request_with (message.Update epoch n entry) = refl
  request_with (message.Ack epoch n) = refl
  request_with (message.Snapshot epoch transfer) = refl
  request_with (message.NewPred epoch pred) = refl
  request_with (message.Have epoch last) = refl
  request_with (message.NewSucc epoch succ last) = refl
  request_with (message.BecomeHead epoch) = refl
  request_with (message.BecomeTail epoch) = refl
  request_with message.Retire = refl
  request_with (message.Joined epoch) = refl
  request_with message.Gone = refl
  request_with (message.Config epoch head tail) = refl

  front_test : (link : List (MessageOf M)) → front_is is_request (map (message_with h) link) ≡ front_is is_request link
  front_test [] = refl
  front_test (m ∷ more) = request_with m

  front_there : (link : List (MessageOf M)) → front_is (λ m. true) (map (message_with h) link) ≡ front_is (λ m. true) link
  front_there [] = refl
  front_there (m ∷ more) = refl

  failed_with : (w : World M) (p : Process) → has_failed (world_with h w) p ≡ has_failed w p
  failed_with w Master = refl
  failed_with w (Server s) = refl
  failed_with w (Client c) = refl

  -- what is let go of
  gone_if : (b : Bool) (link : List (MessageOf M)) → (if b then [] else map (message_with h) link) ≡ map (message_with h) (if b then [] else link)
  gone_if true link = refl
  gone_if false link = refl

  let_go_with : (w : World M) → let_go (world_with h w) ≡ world_with h (let_go w)
  let_go_with w = λ i. record (world_with h w) {
    servers = λ s. at_if (w.failed s) spare (w.servers s) i;
    links = λ from to. (ap (λ b. if b then [] else map (message_with h) (w.links from to)) (failed_with w to)
        ∙ gone_if (has_failed w to) (w.links from to)) i;
  }

  -- the same events are enabled
  pub enabled_with : (w : World M) (event : Event) → is_enabled (world_with h w) event ≡ is_enabled w event
  enabled_with w (Begin c call) = refl
  enabled_with w (Retry c) = refl
  enabled_with w (Take from to) = λ i. front_there (w.links from to) i && not (failed_with w to i)
  enabled_with w (Ignore from to) = λ i. front_test (w.links from to) i && not (failed_with w to i)
  enabled_with w (Fail s) = refl
  enabled_with w (Order order) = refl

  -- an order to retire is one in both
  retirement_with : (from : Process) (m : MessageOf M) → server.is_retirement from (message_with h m) ≡ server.is_retirement from m
  retirement_with Master message.Retire = refl
  retirement_with from m = refl

  -- a choice between two effects
  chosen_with : (b : Bool) (w : World M) (p : Process) (x y : Effect M) (x' y' : Effect N) → did_in (world_with h w) p x'
      ≡ world_with h (did_in w p x)
      → did_in (world_with h w) p y' ≡ world_with h (did_in w p y)
      → did_in (world_with h w) p (if b then x' else y') ≡ world_with h (did_in w p (if b then x else y))
  chosen_with true w p x y x' y' first second = first
  chosen_with false w p x y x' y' first second = second

  module _ {d : Does M} {e : Does N} (same : IsHomomorphism d e h) where
    -- a message is taken
    takes_with : (w : World M) (from to : Process) (m : MessageOf M)
        → does_in e (world_with h w) to (Hear from (message_with h m)) ≡ world_with h (does_in d w to (Hear from m))
    takes_with w from Master m =
        ap (λ did. did_in (world_with h w) Master (master_effect did)) (master_takes_with h w.master from m)
        ∙ master_does_with w (master.master_step w.master from m)
    takes_with w from (Server s) m =
        rw (retirement_with from m)
        (chosen_with (server.is_retirement from m) w (Server s) stop_effect (server_effect (server.server_step d (w.servers s) from m))
        stop_effect (server_effect (server.server_step e (view_with h (w.servers s)) from (message_with h m)))
        (stops_with w s)
        (ap (λ did. did_in (world_with h w) (Server s) (server_effect did)) (table_with h same (w.servers s) from m)
        ∙ server_does_with w s (server.server_step d (w.servers s) from m)))
    takes_with w from (Client c) m =
        let did : client.ClientResult (Transfer M) = client.client_step (w.clients c) from m in
        ap (λ did. did_in (world_with h w) (Client c) (client_effect c did)) (client_takes_with h (w.clients c) from m)
        ∙ client_does_with w c did.0 did.1 (answer_reported c did.2)

    takes_front_with : (w : World M) (from to : Process) (link : List (MessageOf M))
        → front_step e (world_with h w) from to (map (message_with h) link) ≡ world_with h (front_step d w from to link)
    takes_front_with w from to [] = refl
    takes_front_with w from to (m ∷ more) =
        ap (λ u. does_in e u to (Hear from (message_with h m))) (popped_with w from to)
        ∙ takes_with (record w { links = without_front w.links from to }) from to m

    -- what an event does
    acts_with : (w : World M) (event : Event) → acts e (world_with h w) event ≡ world_with h (acts d w event)
    acts_with w (Begin c call) =
        let did : ClientView × List (Post M) = client.begin_step (w.clients c) call in
        ap (λ did. did_in (world_with h w) (Client c) (begin_effect c call did)) (begins_with h (w.clients c) call)
        ∙ client_does_with w c did.0 did.1 (call_event.Begin c did.0.number call ∷ [])
    acts_with w (Retry c) =
        ap (λ posts. did_in (world_with h w) (Client c) (record { left = AtClient (w.clients c); posts = posts; reported = [] }))
        (retries_with h (w.clients c))
        ∙ client_does_with w c (w.clients c) (client.retry_posts (w.clients c)) []
    acts_with w (Take from to) = takes_front_with w from to (w.links from to)
    acts_with w (Ignore from to) = popped_with w from to
    acts_with w (Fail s) = stops_with w s
    acts_with w (Order order) =
        ap (λ did. did_in (world_with h w) Master (master_effect did)) (orders_with h w.master order)
        ∙ master_does_with w (master.order_step w.master order)

    -- where it can happen
    happens_if : (b : Bool) (w acted : World M) (acted' : World N) → acted' ≡ world_with h acted
        → (if b then let_go acted' else world_with h w) ≡ world_with h (if b then let_go acted else w)
    happens_if true w acted acted' did = ap let_go did ∙ let_go_with acted
    happens_if false w acted acted' did = refl

    happens_with : (w : World M) (event : Event) → happens e (world_with h w) event ≡ world_with h (happens d w event)
    happens_with w event = rw (enabled_with w event) (happens_if (is_enabled w event) w (acts d w event)
        (acts e (world_with h w) event) (acts_with w event))

    -- a run
    pub run_with : (w : World M) (events : List Event) → run e (world_with h w) events ≡ world_with h (run d w events)
    run_with w [] = refl
    run_with w (event ∷ events) = ap (λ u. run e u events) (happens_with w event) ∙ run_with (happens d w event) events

    -- the opening
    view_if : (b : Bool) (x y : ServerView M) (x' y' : ServerView N) → x' ≡ view_with h x → y' ≡ view_with h y
        → (if b then x' else y') ≡ view_with h (if b then x else y)
    view_if true x y x' y' p q = p
    view_if false x y x' y' p q = q

    abbrev before : ℕ → Option Neighbour
    before s = if s == 1 then None else Some (s - 1, 0)

    abbrev behind : ℕ → ℕ → Option Neighbour
    behind servers s = if s == servers then None else Some (s + 1, 0)

    opening_server_with : (servers s : ℕ) → opening_server e servers s ≡ view_with h (opening_server d servers s)
    opening_server_with servers s =
        view_if (s == 0) spare _ spare _ refl
        (view_if (nat_lt servers s) spare _ spare _ refl
        (ap (λ start. record { machine = Some start; last = 0; sent = []; pred = before s; succ = behind servers s }) (sym same.start)))

    pub opening_with : (servers clients : ℕ) → opening_world e servers clients ≡ world_with h (opening_world d servers clients)
    opening_with servers clients = λ i. record (opening_world e servers clients) { servers = λ s. opening_server_with servers s i }

-- a run from the opening is the mapped one
pub runs_with : {M N : Type 0} (h : M → N) {d : Does M} {e : Does N} (same : IsHomomorphism d e h) (servers clients : ℕ) (events : List Event)
    → run e (opening_world e servers clients) events ≡ world_with h (run d (opening_world d servers clients) events)
runs_with h {d} {e} same servers clients events = ap (λ w. run e w events) (opening_with h same servers clients)
    ∙ run_with h same (opening_world d servers clients) events
