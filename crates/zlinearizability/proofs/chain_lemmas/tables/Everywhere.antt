-- What each server's view and each message has on its own. It holds of every run where the server
-- table preserves it and all orders and requests have it.
use Rattle.std.proofs.Common.{ℕ, List, [], ◌∷◌, refl, inl, inr}
use Rattle.zcalls.specs.Lists.{Among}
use Rattle.zcalls.proofs.Among.{test}
use Rattle.zprotocol.specs.declared.message.Message.TheVariants as message
use Rattle.zprotocol.specs.declared.process.Process.{Process}
use Rattle.zprotocol.specs.declared.process.Process.TheVariants.{Master, Server, Client}
use Rattle.zprotocol.specs.server.Machine.{Does}
use Rattle.zprotocol.specs.server.View.{ServerView, Transfer, MessageOf, Post}
use Rattle.zprotocol.specs.server.Table as server
use Rattle.zprotocol.specs.master.Table as master
use Rattle.zprotocol.specs.client.View.{ClientView}
use Rattle.zprotocol.specs.client.Table as client
use Rattle.zprotocol.specs.declared.world.event.Event.{Event}
use Rattle.zprotocol.specs.declared.world.event.Event.TheVariants.{Begin, Retry, Take, Ignore, Fail, Order}
use Rattle.zprotocol.specs.world.Links.{Links, put, without_front}
use Rattle.zprotocol.specs.world.World.{World}
use Rattle.zprotocol.specs.world.History.{History}
use Rattle.zprotocol.specs.world.Does.{AtClient, Hear, server_effect, stop_effect, answer_reported, last_post}
use Rattle.zprotocol.specs.declared.world.history.CallEvent.TheVariants as call_event
use Rattle.zprotocol.specs.world.Events.{is_enabled, did_in, does_in, front_step, acts}
use Rattle.zprotocol.specs.world.Keeping.{keeps, run_keeping}
use Rattle.zprotocol.proofs.world_lemmas.Effects.{by_choice}
use Rattle.zlinearizability.proofs.chain_lemmas.links.Links.{put_among, front_among, at_cases, AllPosts, all_none, all_and}
use Rattle.zlinearizability.proofs.chain_lemmas.tables.OtherPosts.{IsOrder, IsRequest, master_orders, order_orders}
use Rattle.zlinearizability.proofs.chain_lemmas.tables.OtherPosts.{begin_requests, retry_requests, client_requests}

-- each view has the one, and each message in flight the other
pub record Everywhere {M : Type 0} (V : ServerView M → Type 0) (Q : MessageOf M → Type 0) (w : World M) : Type 0 where
  pub views : (s : ℕ) → V (w.servers s)
  pub under_way : (from to : Process) (m : MessageOf M) → Among m (w.links from to) → Q m

module _ {M : Type 0} (does : Does M) (V : ServerView M → Type 0) (Q : MessageOf M → Type 0)
    (rows : (v : ServerView M) (from : Process) (m : MessageOf M) → V v → Q m → V (server.server_step does v from m).0
    × AllPosts Q (server.server_step does v from m).1)
    (orders : (m : MessageOf M) → IsOrder m → Q m) (requests : (m : MessageOf M) → IsRequest m → Q m) (gone : Q message.Gone) where
  -- more is put
  put_all : (links : Links M) (sender : Process) (posts : List (Post M)) → AllPosts Q posts
      → ((from to : Process) (m : MessageOf M) → Among m (links from to) → Q m)
      → (from to : Process) (m : MessageOf M) → Among m (put links sender posts from to) → Q m
  put_all links sender posts new old from to m a = elim (put_among links sender posts from to m a)
      [ inl b ↦ old from to m b | inr p ↦ new (to, m) p.1 ]

  -- a client does something
  client_does_all : (w : World M) (c : ℕ) (view : ClientView) (posts : List (Post M)) (reported : History) → AllPosts Q posts → Everywhere V Q w
      → Everywhere V Q (did_in w (Client c) (record { left = AtClient view; posts = posts; reported = reported }))
  client_does_all w c view posts reported new h = record { views = h.views; under_way = put_all w.links (Client c) posts new h.under_way }

  asked_all : (posts : List (Post M)) → AllPosts IsRequest posts → AllPosts Q posts
  asked_all posts h post a = requests post.1 (h post a)

  ordered_all : (posts : List (Post M)) → AllPosts IsOrder posts → AllPosts Q posts
  ordered_all posts h post a = orders post.1 (h post a)

  -- a server stops
  stops_all : (w : World M) (s : ℕ) → Everywhere V Q w → Everywhere V Q (did_in w (Server s) stop_effect)
  stops_all w s h = record {
    views = h.views;
    under_way = put_all w.links (Server s) last_post
        (all_and Q (Master, message.Gone) [] gone (all_none Q)) h.under_way;
  }

  -- a message is taken
  takes_all : (w : World M) (from to : Process) (m : MessageOf M) → Q m → Everywhere V Q w → Everywhere V Q (does_in does w to (Hear from m))
  takes_all w from Master m q h =
      record {
        views = h.views;
        under_way = put_all w.links Master (master.master_step w.master from m).1
            (ordered_all _ (master_orders w.master from m)) h.under_way;
      }
  takes_all w from (Server s) m q h =
      let row = rows (w.servers s) from m (h.views s) q in
      by_choice (Everywhere V Q) (server.is_retirement from m) w (Server s) stop_effect
      (server_effect (server.server_step does (w.servers s) from m)) (stops_all w s h)
      (record {
        views = λ t. at_cases V s (server.server_step does (w.servers s) from m).0 w.servers t (λ e. row.0) (λ f. h.views t);
        under_way = put_all w.links (Server s) (server.server_step does (w.servers s) from m).1 row.1 h.under_way;
      })
  takes_all w from (Client c) m q h =
      let did : client.ClientResult (Transfer M) = client.client_step (w.clients c) from m in
      client_does_all w c did.0 did.1 (answer_reported c did.2) (asked_all did.1 (client_requests (w.clients c) from m)) h

  popped_all : (w : World M) (from to : Process) → Everywhere V Q w → Everywhere V Q (record w { links = without_front w.links from to })
  popped_all w from to h = record { views = h.views; under_way = λ p q m a. h.under_way p q m (front_among w.links from to p q m a) }

  front_all : (w : World M) (from to : Process) (link : List (MessageOf M)) → ((m : MessageOf M) → Among m link → Q m)
      → Everywhere V Q w → Everywhere V Q (front_step does w from to link)
  front_all w from to [] q h = h
  front_all w from to (m ∷ more) q h = takes_all (record w { links = without_front w.links from to }) from to m
      (q m (inl refl)) (popped_all w from to h)

  acts_all : (w : World M) (event : Event) → Everywhere V Q w → Everywhere V Q (acts does w event)
  acts_all w (Begin c call) h =
      let did : ClientView × List (Post M) = client.begin_step (w.clients c) call in
      client_does_all w c did.0 did.1 (call_event.Begin c did.0.number call ∷ []) (asked_all did.1 (begin_requests (w.clients c) call)) h
  acts_all w (Retry c) h = client_does_all w c (w.clients c) (client.retry_posts (w.clients c)) []
      (asked_all (client.retry_posts (w.clients c)) (retry_requests (w.clients c))) h
  acts_all w (Take from to) h = front_all w from to (w.links from to) (h.under_way from to) h
  acts_all w (Ignore from to) h = popped_all w from to h
  acts_all w (Fail s) h = stops_all w s h
  acts_all w (Order order) h =
      record {
        views = h.views;
        under_way = put_all w.links Master (master.order_step w.master order).1
            (ordered_all _ (order_orders w.master order)) h.under_way;
      }

  -- an event
  pub keeps_all : (w : World M) (event : Event) → Everywhere V Q w → Everywhere V Q (keeps does w event)
  keeps_all w event h = elim (test (is_enabled w event)) [ inl t ↦ rw t (acts_all w event h) | inr f ↦ rw f h ]

  -- and every list of events
  pub run_all : (w : World M) (events : List Event) → Everywhere V Q w → Everywhere V Q (run_keeping does w events)
  run_all w [] h = h
  run_all w (event ∷ events) h = run_all (keeps does w event) events (keeps_all w event h)
