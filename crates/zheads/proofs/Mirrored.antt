-- Each event does the same in the chain's world without clients and in the log world that it shows.
use Rattle.std.specs.Prelude.{◌&&◌, not, is_none, if◌then◌else◌}
use Rattle.std.proofs.Common.{◌≡◌, ℕ, Bool, true, false, nat_lt, ◌==◌, List, [], ◌∷◌, map, take, zero, suc, refl, sym, ap, ◌∙◌, subst, inl, inr}
use Rattle.zcalls.specs.declared.call.Entry.{Entry}
use Rattle.zcalls.specs.Cached.{Plain}
use Rattle.zcalls.proofs.Among.{test}
use Rattle.zprotocol.specs.declared.message.Message.{Message}
use Rattle.zprotocol.specs.declared.message.Message.TheVariants as message
use Rattle.zprotocol.specs.declared.process.Process.{Process}
use Rattle.zprotocol.specs.declared.process.Process.TheVariants.{Master, Server, Client}
use Rattle.zprotocol.specs.declared.world.event.Event.{Event}
use Rattle.zprotocol.specs.declared.world.event.Event.TheVariants.{Take, Ignore, Fail, Order}
use Rattle.zprotocol.specs.declared.master.order.Order.{Order as MasterOrder}
use Rattle.zprotocol.specs.Places.{is_server}
use Rattle.zprotocol.specs.server.Machine.{Does}
use Rattle.zprotocol.specs.server.View.{ServerView, Transfer, MessageOf, spare}
use Rattle.zprotocol.specs.server.Table as server
use Rattle.zprotocol.specs.server.support.Homomorphism.{posts_with}
use Rattle.zprotocol.specs.master.Order.{server_of}
use Rattle.zprotocol.specs.master.View.{MasterView}
use Rattle.zprotocol.specs.master.Table as master
use Rattle.zprotocol.specs.master.support.Cases.{IsMasterRow, Ignores, Reports, Joins, LeavesOutside, Leaves}
use Rattle.zprotocol.proofs.master_lemmas.Cases.{master_case}
use Rattle.zprotocol.proofs.master_lemmas.Orders.{order_counts}
use Rattle.zprotocol.proofs.master_lemmas.Projection as masters
use Rattle.zprotocol.specs.world.Links.{without_front}
use Rattle.zprotocol.specs.world.World.{World, opening_world}
use Rattle.zprotocol.specs.world.Does.{Hear, master_effect, server_effect, stop_effect}
use Rattle.zprotocol.specs.world.Events.{front_is, is_request, is_enabled, did_in, does_in, front_step, acts, let_go, happens}
use Rattle.zprotocol.specs.world.Keeping.{keeps}
use Rattle.zlinearizability.specs.chain.Flow.{log_machine, LogWorld, LogMessage}
use Rattle.zlinearizability.specs.chain.Last.{HasExactLast}
use Rattle.zlinearizability.specs.Cuts.{Stays, cut_links, cut}
use Rattle.zlinearizability.proofs.chain_lemmas.tables.OtherPosts.{master_orders, order_orders}
use Rattle.zheads.proofs.Shown.{IsInside, machine_after, shown_view, shown, IsShown, table_shown}
use Rattle.zheads.proofs.Represents.{Represents, is_out, has_failed_is, same_out, and_false, happens_idle, happens_does, keeps_idle, keeps_does, let_go_shown, pop_shown, server_did, stop_did, master_did, orders_shown, master_shown, retire_shown}

-- the master knows of as many clients as before
master_counts : {T : Type 0} (v : MasterView) (from : Process) (m : Message T) (r : master.MasterResult T) → IsMasterRow v from m r → r.0.clients ≡ v.clients
master_counts v _ _ _ (Ignores from m) = refl
master_counts v _ _ _ (Reports s epoch last p is) = refl
master_counts v _ _ _ (Joins s epoch is) = refl
master_counts v _ _ _ (LeavesOutside s out) = refl
master_counts v _ _ _ (Leaves s chain among mended) = refl

-- lists
pub take_none : {A : Type 0} (n : ℕ) → take {A = A} n [] ≡ []
take_none zero = refl
take_none (suc n) = refl

take_map : {A B : Type 0} (f : A → B) (n : ℕ) (xs : List A) → take n (map f xs) ≡ map f (take n xs)
take_map f zero xs = refl
take_map f (suc n) [] = refl
take_map f (suc n) (x ∷ xs) = ap (λ l. f x ∷ l) (take_map f n xs)

module _ {M : Type 0} (machine : Does M) {P : Type 0} (plain : Plain P) where
  abbrev logs : Does (List Entry)
  logs = log_machine plain

  abbrev show : LogMessage → MessageOf M
  show m = shown machine m

  abbrev Shows : World M → LogWorld → Type 0
  Shows w v = Represents machine plain w v

  -- an event that happens in neither, and one that happens in both
  both_idle : (w : World M) (v : LogWorld) (event : Event) → Shows w v → is_enabled w event ≡ false → is_enabled v event ≡ false
      → Shows (happens machine w event) (keeps logs v event)
  both_idle w v event r e f =
      subst (λ x. Shows x (keeps logs v event)) (sym (happens_idle machine w event e)) (subst (λ y. Shows w y) (sym (keeps_idle logs v event f)) r)

  both_do : (w : World M) (v : LogWorld) (event : Event) → is_enabled w event ≡ true → is_enabled v event ≡ true
      → Shows (acts machine w event) (acts logs v event) → Shows (happens machine w event) (keeps logs v event)
  both_do w v event e f did =
      subst (λ x. Shows x (keeps logs v event)) (sym (happens_does machine w event e))
      (subst (λ y. Shows (let_go (acts machine w event)) y) (sym (keeps_does logs v event f))
      (let_go_shown machine plain (acts machine w event) (acts logs v event) did))

  either : (w : World M) (v : LogWorld) (event : Event) → Shows w v → is_enabled w event ≡ is_enabled v event
      → Shows (acts machine w event) (acts logs v event) → Shows (happens machine w event) (keeps logs v event)
  either w v event r same did = elim (test (is_enabled v event)) [
    | inl t ↦ both_do w v event (same ∙ t) t did
    | inr f ↦ both_idle w v event r (same ∙ f) f
  ]

  -- a message is taken
  chosen : (w : World M) (v : LogWorld) (s : ℕ) (b c : Bool) (did : server.ServerResult M) (log : server.ServerResult (List Entry)) → b ≡ c → Shows w v
      → IsShown machine did log
      → Shows (did_in w (Server s) (if b then stop_effect else server_effect did)) (did_in v (Server s) (if c then stop_effect else server_effect log))
  chosen w v s true true did log is r same = stop_did machine plain w v r s
  chosen w v s false false did log is r same = server_did machine plain w v r s did log same
  chosen w v s true false did log is r same = absurd (cc is)
  chosen w v s false true did log is r same = absurd (cc is)

  takes_shown : (w : World M) (v : LogWorld) → Shows w v → ((s : ℕ) → HasExactLast (v.servers s)) → (from to : Process) → IsInside from → IsInside to
      → is_out v.failed to ≡ false → (m : LogMessage) → Shows (does_in machine w to (Hear from (show m))) (does_in logs v to (Hear from m))
  takes_shown w v r exact from Master i j live m =
      let did : master.MasterResult (Transfer (List Entry)) = master.master_step v.master from m in
      let same : master.master_step w.master from (show m) ≡ (did.0, posts_with (machine_after machine) did.1) =
      ap (λ (x : MasterView). master.master_step x from (show m)) r.master ∙ master_shown machine plain v.master from m in
      subst (λ (x : master.MasterResult (Transfer M)). Shows (did_in w Master (master_effect x)) (did_in v Master (master_effect did))) (sym same)
      (master_did machine plain w v r (did.0, posts_with (machine_after machine) did.1) did refl
      (master_counts v.master from m did (master_case v.master from m) ∙ r.alone) (orders_shown machine plain did.1 (master_orders v.master from m)))
  takes_shown w v r exact from (Server s) i j live m =
      let log : server.ServerResult (List Entry) = server.server_step logs (v.servers s) from m in
      chosen w v s (server.is_retirement from (show m)) (server.is_retirement from m) (server.server_step machine (w.servers s) from (show m)) log
      (retire_shown machine plain from m) r
      (subst (λ (x : ServerView M). IsShown machine (server.server_step machine x from (show m)) log) (sym (r.servers s live))
      (table_shown machine plain (v.servers s) from i m (exact s)))
  takes_shown w v r exact from (Client c) i j live m = absurd j

  pub take_event : (w : World M) (v : LogWorld) → Shows w v → ((s : ℕ) → HasExactLast (v.servers s)) → (from to : Process) → IsInside from → IsInside to
      → Shows (happens machine w (Take from to)) (keeps logs v (Take from to))
  take_event w v r exact from to i j = by (v.links from to) refl (is_out v.failed to) refl
    where
      in_first : (o : Bool) → is_out v.failed to ≡ o → (l : List (MessageOf M)) → w.links from to ≡ l
          → is_enabled w (Take from to) ≡ (front_is (λ m. true) l && not o)
      in_first o out l is = λ k. front_is (λ m. true) (is k) && not ((same_out machine plain w v r to ∙ out) k)

      in_second : (o : Bool) → is_out v.failed to ≡ o → (l : List LogMessage) → v.links from to ≡ l
          → is_enabled v (Take from to) ≡ (front_is (λ m. true) l && not o)
      in_second o out l is = λ k. front_is (λ m. true) (is k) && not ((has_failed_is v to ∙ out) k)

      by : (l : List LogMessage) → v.links from to ≡ l → (o : Bool) → is_out v.failed to ≡ o
          → Shows (happens machine w (Take from to)) (keeps logs v (Take from to))
      by l is true out = both_idle w v (Take from to) r
          (in_first true out (w.links from to) refl ∙ and_false (front_is (λ m. true) (w.links from to)))
          (in_second true out l is ∙ and_false (front_is (λ m. true) l))
      by [] is false live = both_idle w v (Take from to) r
          (in_first false live [] (r.links from to i j live ∙ ap (map show) is)) (in_second false live [] is)
      by (m ∷ rest) is false live =
          let link : w.links from to ≡ show m ∷ map show rest = r.links from to i j live ∙ ap (map show) is in
          both_do w v (Take from to) (in_first false live (show m ∷ map show rest) link) (in_second false live (m ∷ rest) is)
          (subst (λ (l : List (MessageOf M)). Shows (front_step machine w from to l) (front_step logs v from to (v.links from to))) (sym link)
          (subst (λ (k : List LogMessage). Shows (front_step machine w from to (show m ∷ map show rest)) (front_step logs v from to k)) (sym is)
          (takes_shown (record w { links = without_front w.links from to }) (record v { links = without_front v.links from to })
          (pop_shown machine plain w v r from to) exact from to i j live m)))

  -- a server fails
  pub fail_event : (w : World M) (v : LogWorld) → Shows w v → (s : ℕ) → Shows (happens machine w (Fail s)) (keeps logs v (Fail s))
  fail_event w v r s = either w v (Fail s) r (λ i. is_server s && not (r.failed s i)) (stop_did machine plain w v r s)

  -- the master obeys an order
  pub order_event : (w : World M) (v : LogWorld) → Shows w v → (order : MasterOrder) → Shows (happens machine w (Order order)) (keeps logs v (Order order))
  order_event w v r order =
      let did : master.MasterResult (Transfer (List Entry)) = master.order_step v.master order in
      let same : master.order_step w.master order ≡ (did.0, posts_with (machine_after machine) did.1) =
      ap (λ (x : MasterView). master.order_step x order) r.master ∙ masters.order_with (machine_after machine) v.master order in
      either w v (Order order) r (ap (λ (x : MasterView). is_server (server_of order) && is_none (master.order_fault x order)) r.master)
      (subst (λ (x : master.MasterResult (Transfer M)). Shows (did_in w Master (master_effect x)) (did_in v Master (master_effect did))) (sym same)
      (master_did machine plain w v r (did.0, posts_with (machine_after machine) did.1) did refl
      (order_counts (Transfer (List Entry)) v.master order ∙ r.alone) (orders_shown machine plain did.1 (order_orders v.master order))))

  -- a request is lost
  request_shown : (m : LogMessage) → is_request (show m) ≡ is_request m
  request_shown (message.Submit number update) = refl
  request_shown (message.Query number query) = refl
  request_shown (message.Answer number reply) = refl
  request_shown (message.Update epoch n entry) = refl
  request_shown (message.Ack epoch n) = refl
  request_shown (message.Snapshot epoch transfer) = refl
  request_shown (message.NewPred epoch pred) = refl
  request_shown (message.Have epoch last) = refl
  request_shown (message.NewSucc epoch succ last) = refl
  request_shown (message.BecomeHead epoch) = refl
  request_shown (message.BecomeTail epoch) = refl
  request_shown message.Retire = refl
  request_shown (message.Joined epoch) = refl
  request_shown message.Gone = refl
  request_shown (message.Config epoch head tail) = refl

  front_test : (l : List LogMessage) → front_is is_request (map show l) ≡ front_is is_request l
  front_test [] = refl
  front_test (m ∷ more) = request_shown m

  pub ignore_event : (w : World M) (v : LogWorld) → Shows w v → (from to : Process) → IsInside from → IsInside to
      → Shows (happens machine w (Ignore from to)) (keeps logs v (Ignore from to))
  ignore_event w v r from to i j = either w v (Ignore from to) r (same (is_out v.failed to) refl) (pop_shown machine plain w v r from to)
    where
      same : (o : Bool) → is_out v.failed to ≡ o → is_enabled w (Ignore from to) ≡ is_enabled v (Ignore from to)
      same true out =
          (λ k. front_is is_request (w.links from to) && not ((same_out machine plain w v r to ∙ out) k))
          ∙ and_false (front_is is_request (w.links from to)) ∙ sym (and_false (front_is is_request (v.links from to)))
          ∙ (λ k. front_is is_request (v.links from to) && not (sym (has_failed_is v to ∙ out) k))
      same false live = λ k. (ap (front_is is_request) (r.links from to i j live) ∙ front_test (v.links from to)) k
          && not ((same_out machine plain w v r to ∙ sym (has_failed_is v to)) k)

  -- channels lose their ends
  pub cut_shown : (w : World M) (v : LogWorld) → Shows w v → (stays : Stays) → Shows (cut stays w) (cut stays v)
  cut_shown w v r stays = record {
    master = r.master;
    failed = r.failed;
    servers = r.servers;
    links = links;
    requests = λ c to. ap (take (stays (Client c) to)) (r.requests c to) ∙ take_none (stays (Client c) to);
    idle = r.idle;
    alone = r.alone;
  }
    where
      links : (p q : Process) → IsInside p → IsInside q → is_out v.failed q ≡ false → cut_links stays w.links p q ≡ map show (cut_links stays v.links p q)
      links Master q i j live = r.links Master q i j live
      links (Server s) q i j live =
          ap (take (stays (Server s) q)) (r.links (Server s) q i j live) ∙ take_map show (stays (Server s) q) (v.links (Server s) q)
      links (Client c) q i j live = absurd i

  -- before the first event
  view_if : (b : Bool) (x y : ServerView M) (z u : ServerView (List Entry)) → x ≡ shown_view machine z → y ≡ shown_view machine u
      → (if b then x else y) ≡ shown_view machine (if b then z else u)
  view_if true x y z u is other = is
  view_if false x y z u is other = other

  pub opening_shown : (servers : ℕ) → Shows (opening_world machine servers 0) (opening_world logs servers 0)
  opening_shown servers = record {
    master = refl;
    failed = λ s. refl;
    servers = λ s live. view_if (s == 0) spare _ spare _ refl (view_if (nat_lt servers s) spare _ spare _ refl refl);
    links = λ from to i j live. refl;
    requests = λ c to. refl;
    idle = λ c. refl;
    alone = refl;
  }
