-- The chain's world without clients, and the log world that it shows: each event does the same in
-- both, but for what is put for clients.
use Rattle.std.specs.Prelude.{◌&&◌, if◌then◌else◌}
use Rattle.std.proofs.Common.{◌≡◌, ℕ, Bool, true, false, ◌==◌, List, [], ◌∷◌, ◌++◌, map, drop, None, refl, sym, ap, ◌∙◌, inl, inr}
use Rattle.std.proofs.lemmas.List.{map-append, drop-map}
use Rattle.zcalls.specs.declared.call.Entry.{Entry}
use Rattle.zcalls.specs.Cached.{Plain}
use Rattle.zprotocol.specs.declared.message.Message.TheVariants as message
use Rattle.zprotocol.specs.declared.process.Process.{Process}
use Rattle.zprotocol.specs.declared.process.Process.TheVariants.{Master, Server, Client}
use Rattle.zprotocol.specs.declared.world.event.Event.{Event}
use Rattle.zprotocol.specs.server.Machine.{Does}
use Rattle.zprotocol.specs.server.View.{ServerView, Transfer, MessageOf, Post, spare}
use Rattle.zprotocol.specs.server.Table as server
use Rattle.zprotocol.specs.server.support.Homomorphism.{message_with, posts_with}
use Rattle.zprotocol.specs.master.View.{MasterView}
use Rattle.zprotocol.specs.master.Table as master
use Rattle.zprotocol.proofs.master_lemmas.Projection as masters
use Rattle.zprotocol.specs.world.Links.{is_same, messages_to, put, without_front}
use Rattle.zprotocol.specs.world.World.{World, at}
use Rattle.zprotocol.specs.world.Does.{master_effect, server_effect, stop_effect, last_post}
use Rattle.zprotocol.specs.world.Events.{has_failed, is_enabled, did_in, acts, let_go, happens}
use Rattle.zprotocol.specs.world.Keeping.{keeps}
use Rattle.zlinearizability.specs.chain.Flow.{log_machine, LogWorld, LogMessage}
use Rattle.zlinearizability.proofs.chain_lemmas.links.Links.{AllPosts}
use Rattle.zlinearizability.proofs.chain_lemmas.tables.OtherPosts.{IsOrder}
use Rattle.zheads.proofs.Shown.{IsInside, machine_after, shown_view, shown, SamePosts, IsShown, none_shown, cons_shown}

-- a process has failed
abbrev pub is_out : (ℕ → Bool) → Process → Bool
is_out failed (Server s) = failed s
is_out failed p = false

pub has_failed_is : {M : Type 0} (w : World M) (p : Process) → has_failed w p ≡ is_out w.failed p
has_failed_is w Master = refl
has_failed_is w (Server s) = refl
has_failed_is w (Client c) = refl

-- tests
pub and_false : (b : Bool) → (b && false) ≡ false
and_false true = refl
and_false false = refl

not_to_client : (b : Bool) (q : Process) (c : ℕ) → IsInside q → (b && is_same q (Client c)) ≡ false
not_to_client true Master c i = refl
not_to_client true (Server s) c i = refl
not_to_client b (Client d) c i = absurd i
not_to_client false q c i = refl

was_in : (b x : Bool) → (if b then true else x) ≡ false → x ≡ false
was_in true x is = absurd (cc is)
was_in false x is = is

none_of : {A : Type 0} (b : Bool) (l : List A) → l ≡ [] → (if b then [] else l) ≡ []
none_of true l is = refl
none_of false l is = is

drop_none : {A : Type 0} (b : Bool) (l : List A) → l ≡ [] → (if b then drop 1 l else l) ≡ []
drop_none true l is = ap (drop 1) is
drop_none false l is = is

-- an event, by whether it is enabled
pub happens_idle : {M : Type 0} (machine : Does M) (w : World M) (event : Event) → is_enabled w event ≡ false → happens machine w event ≡ w
happens_idle machine w event is = ap (λ b. if b then let_go (acts machine w event) else w) is

pub happens_does : {M : Type 0} (machine : Does M) (w : World M) (event : Event) → is_enabled w event ≡ true
    → happens machine w event ≡ let_go (acts machine w event)
happens_does machine w event is = ap (λ b. if b then let_go (acts machine w event) else w) is

pub keeps_idle : {M : Type 0} (machine : Does M) (w : World M) (event : Event) → is_enabled w event ≡ false → keeps machine w event ≡ w
keeps_idle machine w event is = ap (λ b. if b then acts machine w event else w) is

pub keeps_does : {M : Type 0} (machine : Does M) (w : World M) (event : Event) → is_enabled w event ≡ true
    → keeps machine w event ≡ acts machine w event
keeps_does machine w event is = ap (λ b. if b then acts machine w event else w) is

module _ {M : Type 0} (machine : Does M) {P : Type 0} (plain : Plain P) where
  abbrev logs : Does (List Entry)
  logs = log_machine plain

  abbrev show : LogMessage → MessageOf M
  show m = shown machine m

  -- the world shows the log world
  pub record Represents (w : World M) (v : LogWorld) : Type 0 where
    pub master : w.master ≡ v.master
    pub failed : (s : ℕ) → w.failed s ≡ v.failed s
    pub servers : (s : ℕ) → v.failed s ≡ false → w.servers s ≡ shown_view machine (v.servers s)
    pub links : (from to : Process) → IsInside from → IsInside to → is_out v.failed to ≡ false → w.links from to ≡ map show (v.links from to)
    pub requests : (c : ℕ) (to : Process) → w.links (Client c) to ≡ []
    pub idle : (c : ℕ) → (w.clients c).outstanding ≡ None
    pub alone : v.master.clients ≡ 0

  pub same_out : (w : World M) (v : LogWorld) → Represents w v → (p : Process) → has_failed w p ≡ is_out v.failed p
  same_out w v r Master = refl
  same_out w v r (Server s) = r.failed s
  same_out w v r (Client c) = refl

  -- what failed servers held is let go of
  pub let_go_shown : (w : World M) (v : LogWorld) → Represents w v → Represents (let_go w) v
  let_go_shown w v r = record {
    master = r.master;
    failed = r.failed;
    servers = λ s live. ap (λ b. if b then spare else w.servers s) (r.failed s ∙ live) ∙ r.servers s live;
    links = λ from to i j live. ap (λ b. if b then [] else w.links from to) (same_out w v r to ∙ live) ∙ r.links from to i j live;
    requests = λ c to. none_of (has_failed w to) (w.links (Client c) to) (r.requests c to);
    idle = r.idle;
    alone = r.alone;
  }

  -- a front is taken
  front_if : (b : Bool) (l : List (MessageOf M)) (k : List LogMessage) → l ≡ map show k
      → (if b then drop 1 l else l) ≡ map show (if b then drop 1 k else k)
  front_if true l k is = ap (drop 1) is ∙ drop-map show 1 k
  front_if false l k is = is

  pub pop_shown : (w : World M) (v : LogWorld) → Represents w v → (from to : Process)
      → Represents (record w { links = without_front w.links from to }) (record v { links = without_front v.links from to })
  pop_shown w v r from to = record {
    master = r.master;
    failed = r.failed;
    servers = r.servers;
    links = λ p q i j live. front_if (is_same p from && is_same q to) (w.links p q) (v.links p q) (r.links p q i j live);
    requests = λ c q. drop_none (is_same (Client c) from && is_same q to) (w.links (Client c) q) (r.requests c q);
    idle = r.idle;
    alone = r.alone;
  }

  -- for a client
  pub pop_outside : (w : World M) (v : LogWorld) → Represents w v → (from : Process) (c : ℕ)
      → Represents (record w { links = without_front w.links from (Client c) }) v
  pop_outside w v r from c = record {
    master = r.master;
    failed = r.failed;
    servers = r.servers;
    links = λ p q i j live. ap (λ b. if b then drop 1 (w.links p q) else w.links p q) (not_to_client (is_same p from) q c j) ∙ r.links p q i j live;
    requests = λ d q. drop_none (is_same (Client d) from && is_same q (Client c)) (w.links (Client d) q) (r.requests d q);
    idle = r.idle;
    alone = r.alone;
  }

  -- messages are put
  put_if : (b : Bool) (l x : List (MessageOf M)) (k y : List LogMessage) → l ≡ map show k → x ≡ map show y
      → (if b then l ++ x else l) ≡ map show (if b then k ++ y else k)
  put_if true l x k y is same = (λ i. is i ++ same i) ∙ sym (map-append show k y)
  put_if false l x k y is same = is

  put_shown : (w : World M) (v : LogWorld) → Represents w v → (sender : Process) (posts : List (Post M)) (logged : List (Post (List Entry)))
      → SamePosts machine posts logged → (p q : Process) → IsInside p → IsInside q → is_out v.failed q ≡ false
      → put w.links sender posts p q ≡ map show (put v.links sender logged p q)
  put_shown w v r sender posts logged same p q i j live =
      put_if (is_same p sender) (w.links p q) (messages_to q posts) (v.links p q) (messages_to q logged) (r.links p q i j live) (same q j)

  at_shown : (b : Bool) (x y : ServerView M) (z u : ServerView (List Entry)) → x ≡ shown_view machine z → y ≡ shown_view machine u
      → (if b then x else y) ≡ shown_view machine (if b then z else u)
  at_shown true x y z u is other = is
  at_shown false x y z u is other = other

  -- a server does something
  pub server_did : (w : World M) (v : LogWorld) → Represents w v → (s : ℕ) (did : server.ServerResult M) (log : server.ServerResult (List Entry))
      → IsShown machine did log
      → Represents (did_in w (Server s) (server_effect did)) (did_in v (Server s) (server_effect log))
  server_did w v r s did log is = record {
    master = r.master;
    failed = r.failed;
    servers = λ x live. at_shown (x == s) did.0 (w.servers x) log.0 (v.servers x) is.view (r.servers x live);
    links = put_shown w v r (Server s) did.1 log.1 is.posts;
    requests = r.requests;
    idle = r.idle;
    alone = r.alone;
  }

  -- a server stops
  pub stop_did : (w : World M) (v : LogWorld) → Represents w v → (s : ℕ)
      → Represents (did_in w (Server s) stop_effect) (did_in v (Server s) stop_effect)
  stop_did w v r s = record {
    master = r.master;
    failed = λ x. ap (λ b. if x == s then true else b) (r.failed x);
    servers = λ x live. r.servers x (was_in (x == s) (v.failed x) live);
    links = λ p q i j live. put_shown w v r (Server s) last_post last_post
        (cons_shown machine Master message.Gone message.Gone [] [] refl (none_shown machine)) p q i j (still q live);
    requests = r.requests;
    idle = r.idle;
    alone = r.alone;
  }
    where
      still : (q : Process) → is_out (at s true v.failed) q ≡ false → is_out v.failed q ≡ false
      still Master live = refl
      still (Server x) live = was_in (x == s) (v.failed x) live
      still (Client c) live = refl

  -- the master does something
  pub master_did : (w : World M) (v : LogWorld) → Represents w v → (did : master.MasterResult (Transfer M)) (log : master.MasterResult (Transfer (List Entry)))
      → did.0 ≡ log.0 → log.0.clients ≡ 0 → SamePosts machine did.1 log.1
      → Represents (did_in w Master (master_effect did)) (did_in v Master (master_effect log))
  master_did w v r did log view alone same = record {
    master = view;
    failed = r.failed;
    servers = r.servers;
    links = put_shown w v r Master did.1 log.1 same;
    requests = r.requests;
    idle = r.idle;
    alone = alone;
  }

  -- what the master puts names no entry
  order_same : (m : LogMessage) → IsOrder m → message_with (machine_after machine) m ≡ show m
  order_same (message.NewPred epoch p) h = refl
  order_same (message.NewSucc epoch t last) h = refl
  order_same (message.BecomeHead epoch) h = refl
  order_same (message.BecomeTail epoch) h = refl
  order_same message.Retire h = refl
  order_same (message.Config epoch head tail) h = refl
  order_same (message.Submit number update) h = absurd h
  order_same (message.Query number query) h = absurd h
  order_same (message.Answer number reply) h = absurd h
  order_same (message.Update epoch n e) h = absurd h
  order_same (message.Ack epoch n) h = absurd h
  order_same (message.Snapshot epoch transfer) h = absurd h
  order_same (message.Have epoch last) h = absurd h
  order_same (message.Joined epoch) h = absurd h
  order_same message.Gone h = absurd h

  pub orders_shown : (posts : List (Post (List Entry))) → AllPosts IsOrder posts → SamePosts machine (posts_with (machine_after machine) posts) posts
  orders_shown [] h = none_shown machine
  orders_shown (post ∷ posts) h =
      cons_shown machine post.0 post.1 (message_with (machine_after machine) post.1) (posts_with (machine_after machine) posts) posts
      (order_same post.1 (h post (inl refl))) (orders_shown posts (λ q a. h q (inr a)))

  master_hears : (v : MasterView) (from : Process) (m : LogMessage)
      → master.master_step v from (show m) ≡ master.master_step v from (message_with (machine_after machine) m)
  unfolding master.master_step
  master_hears v (Server s) (message.Update epoch n e) = refl
  master_hears v Master (message.Update epoch n e) = refl
  master_hears v (Client c) (message.Update epoch n e) = refl
  master_hears v from m = refl

  pub master_shown : (v : MasterView) (from : Process) (m : LogMessage)
      → master.master_step v from (show m)
      ≡ ((master.master_step v from m).0, posts_with (machine_after machine) (master.master_step v from m).1)
  master_shown v from m = master_hears v from m ∙ masters.table_with (machine_after machine) v from m

  pub retire_shown : (from : Process) (m : LogMessage) → server.is_retirement from (show m) ≡ server.is_retirement from m
  retire_shown Master message.Retire = refl
  retire_shown from m = refl
