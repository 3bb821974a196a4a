-- Worlds that are alike have the same events enabled, and stay alike.
use Rattle.std.proofs.Common.{◌≡◌, ℕ, Bool, true, false, if◌then◌else◌, List, [], ◌∷◌, ◌++◌, refl, sym, ap, subst, ◌∙◌}
use mathlib.Core.Bool.{true≢false}
use Rattle.std.specs.Prelude.{◌&&◌, not, ◌==◌, drop}
use Rattle.zprotocol.specs.declared.process.Process.{Process}
use Rattle.zprotocol.specs.declared.process.Process.TheVariants.{Master, Server, Client}
use Rattle.zprotocol.specs.server.Machine.{Does}
use Rattle.zprotocol.specs.server.View.{ServerView, MessageOf, Post, spare}
use Rattle.zprotocol.specs.server.Table as server
use Rattle.zprotocol.specs.declared.world.event.Event.{Event}
use Rattle.zprotocol.specs.declared.world.event.Event.TheVariants.{Begin, Retry, Take, Ignore, Fail, Order}
use Rattle.zprotocol.specs.world.Links.{Links, put, without_front, is_same, messages_to}
use Rattle.zprotocol.specs.world.World.{World, at}
use Rattle.zprotocol.specs.world.Does.{AtServer, Hear, Effect, server_effect, stop_effect, last_post, does}
use Rattle.zprotocol.specs.world.Events.{front_is, is_request, has_failed, is_enabled, did_in, does_in, front_step, acts, let_go, happens, run}
use Rattle.zprotocol.specs.declared.world.outcome.Outcome.{Outcome}
use Rattle.zprotocol.specs.declared.world.outcome.Outcome.TheVariants.{Acted, Stopped, Unheard}
use Rattle.zprotocol.specs.server.Memory.{may_be_unheard, may_stop}
use Rattle.zprotocol.specs.world.Reading.{is_delivery, is_fitting, reading_by, read}
use Rattle.zprotocol.specs.world.support.Alike.{IsAlike}

-- the links agree where it matters in the world
abbrev Agree : {M : Type 0} → World M → Links M → Links M → Type 0
Agree v links others = (from to : Process) → has_failed v to ≡ false → links from to ≡ others from to

-- what is put preserves that
put_agrees : {M : Type 0} (v : World M) (links others : Links M) (sender : Process) (posts : List (Post M))
    → Agree v links others → Agree v (put links sender posts) (put others sender posts)
put_agrees v links others sender posts agree from to alive = ap (λ link. if is_same from sender then link ++ messages_to to posts else link)
    (agree from to alive)

-- and so does a front that is taken
front_agrees : {M : Type 0} (v : World M) (links others : Links M) (sender taker : Process)
    → Agree v links others → Agree v (without_front links sender taker) (without_front others sender taker)
front_agrees v links others sender taker agree from to alive = ap (λ link. if is_same from sender && is_same to taker
    then drop 1 link else link) (agree from to alive)

-- what is let go of doesn't hang on what failed servers held
forgets : {A : Type 0} (b : Bool) (none x y : A) → (b ≡ false → x ≡ y) → (if b then none else x) ≡ (if b then none else y)
forgets true none x y same = refl
forgets false none x y same = same refl

go_in : {M : Type 0} (v : World M) (others : ℕ → ServerView M) (links : Links M) → IsAlike v (record v { servers = others; links = links })
    → let_go v ≡ let_go (record v { servers = others; links = links })
go_in v others links alike = λ i. record v {
  servers = λ s. forgets (v.failed s) spare (v.servers s) (others s) (alike.servers s) i;
  links = λ from to. forgets (has_failed v to) [] (v.links from to) (links from to) (alike.links from to) i;
}

pub alike_let_go : {M : Type 0} (v w : World M) → IsAlike v w → let_go v ≡ let_go w
alike_let_go v w alike = go_in v w.servers w.links (subst (IsAlike v) alike.rest alike) ∙ ap let_go (sym alike.rest)

-- a world is like itself
pub alike_itself : {M : Type 0} (w : World M) → IsAlike w w
alike_itself w = record { rest = refl; servers = λ s alive. refl; links = λ from to alive. refl }

-- and like the one that has let go
pub alike_gone : {M : Type 0} (w : World M) → IsAlike w (let_go w)
alike_gone w = record {
  rest = refl;
  servers = λ s alive. ap (λ b. if b then spare else w.servers s) (sym alive);
  links = λ from to alive. ap (λ b. if b then [] else w.links from to) (sym alive);
}

pub alike_back : {M : Type 0} (w : World M) → IsAlike (let_go w) w
alike_back w = record {
  rest = refl;
  servers = λ s alive. ap (λ b. if b then spare else w.servers s) alive;
  links = λ from to alive. ap (λ b. if b then [] else w.links from to) alive;
}

-- a taker of an enabled delivery has not failed
not_failed : (front failed : Bool) → (front && not failed) ≡ true → failed ≡ false
not_failed front false enabled = refl
not_failed true true enabled = absurd (true≢false (sym enabled))
not_failed false true enabled = absurd (true≢false (sym enabled))

-- where the taker has not failed, worlds that agree enable the same deliveries
same_where_alive : (failed front other : Bool) → (failed ≡ false → front ≡ other) → (front && not failed) ≡ (other && not failed)
same_where_alive false front other same = ap (λ b. b && true) (same refl)
same_where_alive true true true same = refl
same_where_alive true true false same = refl
same_where_alive true false true same = refl
same_where_alive true false false same = refl

-- a world, and the one that has other servers and links in it, which agree with its own where it matters
module _ {M : Type 0} (machine : Does M) (v : World M) (others : ℕ → ServerView M) (links : Links M)
    (same_views : (s : ℕ) → v.failed s ≡ false → v.servers s ≡ others s) (agree : Agree v v.links links) where
  -- the other world
  abbrev other : World M
  other = record v { servers = others; links = links }

  -- both worlds, without the front of a link
  abbrev popped : Process → Process → World M
  popped from to = record v { links = without_front v.links from to }

  abbrev other_popped : Process → Process → World M
  other_popped from to = record other { links = without_front links from to }

  -- a server's new view and what it puts
  server_does_alike : (from : Process) (s : ℕ) (did : ServerView M × List (Post M))
      → IsAlike (did_in (popped from (Server s)) (Server s) (server_effect did))
      (did_in (other_popped from (Server s)) (Server s) (server_effect did))
  server_does_alike from s did = record {
    rest = refl;
    servers = λ t alive. ap (λ view. if t == s then did.0 else view) (same_views t alive);
    links = put_agrees v _ _ (Server s) did.1 (front_agrees v _ _ from (Server s) agree);
  }

  -- who hasn't failed after one more failure had not failed before it
  was_alive : (s t : ℕ) (b : Bool) → (t == s) ≡ b → at s true v.failed t ≡ false → v.failed t ≡ false
  was_alive s t true is alive = absurd (true≢false (sym (ap (λ x. if x then true else v.failed t) is) ∙ alive))
  was_alive s t false is alive = sym (ap (λ x. if x then true else v.failed t) is) ∙ alive

  -- and so no process
  none_failed : (s : ℕ) (to : Process) → has_failed (record v { failed = at s true v.failed }) to ≡ false → has_failed v to ≡ false
  none_failed s Master alive = refl
  none_failed s (Server t) alive = was_alive s t (t == s) refl alive
  none_failed s (Client c) alive = refl

  -- a server that stops, in worlds whose links agree too
  stops_alike : (s : ℕ) (one another : Links M) → Agree v one another
      → IsAlike (did_in (record v { links = one }) (Server s) stop_effect) (did_in (record other { links = another }) (Server s) stop_effect)
  stops_alike s one another same = record {
    rest = refl;
    servers = λ t alive. same_views t (was_alive s t (t == s) refl alive);
    links = λ from to alive. put_agrees v one another (Server s) last_post same from to (none_failed s to alive);
  }

  -- worlds that are alike, by one choice in both
  chosen_alike : (b : Bool) (x y : World M) (p : Process) (d e : Effect M) → IsAlike (did_in x p d) (did_in y p d)
      → IsAlike (did_in x p e) (did_in y p e)
      → IsAlike (did_in x p (if b then d else e)) (did_in y p (if b then d else e))
  chosen_alike true x y p d e first second = first
  chosen_alike false x y p d e first second = second

  -- what a taker that has not failed does
  takes_alike : (from to : Process) (message : MessageOf M) → has_failed v to ≡ false
      → IsAlike (does_in machine (popped from to) to (Hear from message)) (does_in machine (other_popped from to) to (Hear from message))
  takes_alike from Master message alive = record {
    rest = refl;
    servers = same_views;
    links = put_agrees v _ _ Master _ (front_agrees v _ _ from Master agree);
  }
  takes_alike from (Server s) message alive =
      let first : World M = popped from (Server s) in
      let second : World M = other_popped from (Server s) in
      let did : ServerView M × List (Post M) = server.server_step machine (v.servers s) from message in
      subst (λ view. IsAlike (does_in machine first (Server s) (Hear from message))
      (did_in second (Server s) (does machine (Server s) (Hear from message) (AtServer view))))
      (same_views s alive)
      (chosen_alike (server.is_retirement from message) first second (Server s) stop_effect (server_effect did)
      (stops_alike s _ _ (front_agrees v _ _ from (Server s) agree)) (server_does_alike from s did))
  takes_alike from (Client c) message alive = record {
    rest = refl;
    servers = same_views;
    links = put_agrees v _ _ (Client c) _ (front_agrees v _ _ from (Client c) agree);
  }

  -- the worlds as they are
  as_they_are : IsAlike v other
  as_they_are = record { rest = refl; servers = same_views; links = agree }

  -- a front that is taken, by what the link has in both
  takes_front_alike : (from to : Process) (link : List (MessageOf M)) → has_failed v to ≡ false
      → IsAlike (front_step machine v from to link) (front_step machine other from to link)
  takes_front_alike from to [] alive = as_they_are
  takes_front_alike from to (message ∷ more) alive = takes_alike from to message alive

  -- what an event does that can happen in the first world
  acts_alike : (event : Event) → is_enabled v event ≡ true → IsAlike (acts machine v event) (acts machine other event)
  acts_alike (Begin c call) enabled = record { rest = refl; servers = same_views; links = put_agrees v _ _ (Client c) _ agree }
  acts_alike (Retry c) enabled = record { rest = refl; servers = same_views; links = put_agrees v _ _ (Client c) _ agree }
  acts_alike (Take from to) enabled =
      let alive = not_failed _ (has_failed v to) enabled in
      subst (λ link. IsAlike (front_step machine v from to (v.links from to)) (front_step machine other from to link)) (agree from to alive)
      (takes_front_alike from to (v.links from to) alive)
  acts_alike (Ignore from to) enabled = record { rest = refl; servers = same_views; links = front_agrees v _ _ from to agree }
  acts_alike (Fail s) enabled = stops_alike s v.links links agree
  acts_alike (Order order) enabled = record { rest = refl; servers = same_views; links = put_agrees v _ _ Master _ agree }

  -- the same events can happen in both
  enabled_alike : (event : Event) → is_enabled v event ≡ is_enabled other event
  enabled_alike (Begin c call) = refl
  enabled_alike (Retry c) = refl
  enabled_alike (Take from to) = same_where_alive (has_failed v to) _ _ (λ alive. ap (front_is (λ message. true)) (agree from to alive))
  enabled_alike (Ignore from to) = same_where_alive (has_failed v to) _ _ (λ alive. ap (front_is is_request) (agree from to alive))
  enabled_alike (Fail s) = refl
  enabled_alike (Order order) = refl

  -- an event that is enabled in both, or in neither
  happens_as : (event : Event) (b : Bool) → is_enabled v event ≡ b → is_enabled other event ≡ b
      → IsAlike (happens machine v event) (happens machine other event)
  happens_as event true here there =
      rw (here, there) (subst (IsAlike (let_go (acts machine v event))) (alike_let_go _ _ (acts_alike event here))
      (alike_itself (let_go (acts machine v event))))
  happens_as event false here there = rw (here, there) as_they_are

  -- an event
  happens_alike : (event : Event) → IsAlike (happens machine v event) (happens machine other event)
  happens_alike event = happens_as event (is_enabled v event) refl (sym (enabled_alike event))

-- worlds that are alike have the same events enabled
pub have_the_same_enabled : {M : Type 0} (machine : Does M) (v w : World M) (event : Event) → IsAlike v w → is_enabled v event ≡ is_enabled w event
have_the_same_enabled machine v w event alike =
    enabled_alike machine v w.servers w.links alike.servers alike.links event ∙ ap (λ u. is_enabled u event) (sym alike.rest)

-- do the same at an event that is enabled
pub alike_acts : {M : Type 0} (machine : Does M) (v w : World M) (event : Event) → IsAlike v w → is_enabled v event ≡ true
    → IsAlike (acts machine v event) (acts machine w event)
alike_acts machine v w event alike enabled =
    subst (λ u. IsAlike (acts machine v event) (acts machine u event)) (sym alike.rest)
    (acts_alike machine v w.servers w.links alike.servers alike.links event enabled)

-- and stay alike
pub stay_alike : {M : Type 0} (machine : Does M) (v w : World M) (events : List Event) → IsAlike v w
    → IsAlike (run machine v events) (run machine w events)
stay_alike machine v w [] alike = alike
stay_alike machine v w (event ∷ events) alike =
    stay_alike machine (happens machine v event) (happens machine w event) events
    (subst (λ u. IsAlike (happens machine v event) (happens machine u event)) (sym alike.rest)
    (happens_alike machine v w.servers w.links alike.servers alike.links event))

-- who failed in one failed in the other
same_failed : {M : Type 0} (u v : World M) → IsAlike u v → (to : Process) → has_failed u to ≡ has_failed v to
same_failed u v alike to = ap (λ x. has_failed x to) (sym alike.rest)

pub alike_through : {M : Type 0} (u v w : World M) → IsAlike u v → IsAlike v w → IsAlike u w
alike_through {M} u v w first second = record {
  rest = second.rest ∙ ap (λ (x : World M). record x { servers = w.servers; links = w.links }) first.rest;
  servers = λ s alive. first.servers s alive ∙ second.servers s (sym (same_failed u v first (Server s)) ∙ alive);
  links = λ from to alive. first.links from to alive ∙ second.links from to (sym (same_failed u v first to) ∙ alive);
}

-- an enabled delivery has one front in both
same_link : {M : Type 0} (v w : World M) → IsAlike v w → (from to : Process) → is_enabled v (Take from to) ≡ true → v.links from to ≡ w.links from to
same_link v w alike from to enabled = alike.links from to (not_failed _ (has_failed v to) enabled)

-- both tests of a delivery
same_both : (b c x y : Bool) → b ≡ c → (b ≡ true → x ≡ y) → (b && x) ≡ (c && y)
same_both true true x y same equal = equal refl
same_both false false x y same equal = refl
same_both true false x y same equal = absurd (true≢false same)
same_both false true x y same equal = absurd (true≢false (sym same))

-- a delivery to a server that incarnations is to the same view
same_view : {M : Type 0} (v w : World M) → IsAlike v w → (from : Process) (s : ℕ) → is_enabled v (Take from (Server s)) ≡ true
    → v.servers s ≡ w.servers s
same_view v w alike from s enabled = alike.servers s (not_failed _ (v.failed s) enabled)

delivery_alike : {M : Type 0} (machine : Does M) (v w : World M) (event : Event) (test : ServerView M → Process → MessageOf M → Bool)
    → IsAlike v w → is_delivery v event test ≡ is_delivery w event test
delivery_alike machine v w (Take from (Server s)) test alike =
    same_both _ _ _ _ (have_the_same_enabled machine v w (Take from (Server s)) alike)
    (λ enabled.
    ap (λ view. front_is (test view from) (v.links from (Server s))) (same_view v w alike from s enabled)
    ∙ ap (front_is (test (w.servers s) from)) (same_link v w alike from (Server s) enabled))
delivery_alike machine v w event test alike = refl

-- an event can have the same outcomes in both
pub outcomes_alike : {M : Type 0} (machine : Does M) (v w : World M) (event : Event) (outcome : Outcome)
    → IsAlike v w → is_fitting machine v event outcome ≡ is_fitting machine w event outcome
outcomes_alike machine v w event Acted alike = refl
outcomes_alike machine v w event Stopped alike = delivery_alike machine v w event (may_stop machine) alike
outcomes_alike machine v w event Unheard alike = delivery_alike machine v w event (may_be_unheard machine) alike

-- and reads alike
pub read_alike : {M : Type 0} (machine : Does M) (v w : World M) (event : Event) (outcome : Outcome)
    → IsAlike v w → read machine v event outcome ≡ read machine w event outcome
read_alike machine v w event outcome alike =
    ap (λ b. if b then reading_by event outcome else event) (outcomes_alike machine v w event outcome alike)
