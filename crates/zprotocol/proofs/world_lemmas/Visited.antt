-- Settling visits every link that holds a message.
use Rattle.std.proofs.Common.{if◌then◌else◌, ◌≡◌, ℕ, ◌+◌, ◌-◌, ◌<◌, ◌≤◌, zero, suc, Bool, true, false, nat_lt, nat_le}
use Rattle.std.proofs.Common.{◌==◌, List, [], ◌∷◌, map, Option, Some, None, refl, sym, subst, inl, inr, arith, ltb-true}
use Rattle.std.proofs.Common.{eqb-true}
use mathlib.Core.Bool.{true≢false}
use Rattle.std.specs.Prelude.{◌⊎◌, ◌||◌, flat_map}
use Rattle.std.specs.List.{AllByRecursion, range_with_len, list_any}
use Rattle.std.proofs.lemmas.Bool.Decides.{nat_tests}
use Rattle.ztree.specs.Tree.{Tree}
use Rattle.zcalls.specs.Lists.{Among}
use Rattle.zcalls.proofs.Among.{test}
use Rattle.zprotocol.specs.declared.limits.TheConstants.{MAX_SERVERS}
use Rattle.zprotocol.specs.declared.process.Process.{Process}
use Rattle.zprotocol.specs.declared.process.Process.TheVariants.{Master, Server, Client}
use Rattle.zprotocol.specs.server.Machine.{Does, cached_tree, cached_tree_from}
use Rattle.zprotocol.specs.Places.{is_server, process_at}
use Rattle.zprotocol.proofs.Places.{process_at-server, process_at-client}
use Rattle.zprotocol.specs.server.View.{Neighbour, MessageOf, spare, member, opening_server}
use Rattle.zprotocol.specs.declared.world.event.Event.{Event}
use Rattle.zprotocol.specs.declared.world.event.Event.TheVariants.{Take}
use Rattle.zprotocol.specs.world.World.{World, opening_world}
use Rattle.zprotocol.specs.world.Events.{is_enabled}
use Rattle.zprotocol.specs.world.Settle.{processes, deliveries}
use Rattle.zprotocol.specs.world.FromTree.{opening_world_from, world_after_from}
use Rattle.zprotocol.specs.world.Laws.{world_after, settling_of, LinksAreVisited, QuietIsQuiet}
use Rattle.zprotocol.specs.world.support.Within.{is_process, IsServer, IsNear, IsNamed, IsViewWithin, IsMemberWithin, IsWithin}
use Rattle.zprotocol.proofs.world_lemmas.Among.{among_map, among_first, among_second}
use Rattle.zprotocol.proofs.world_lemmas.Tests.{both}
use Rattle.zprotocol.proofs.world_lemmas.Within.{run_within}
use Rattle.zprotocol.proofs.world_lemmas.Settling.{settling_is_a_run, quiet_has_nothing_to_take}

-- a number from 1 up to the number of servers
is_one : (s : ℕ) → 0 < s → s ≤ MAX_SERVERS → is_server s ≡ true
is_one s some few = grind (arith, nat_tests, some, few)

-- and what such a number is
pub at_least_one : (s : ℕ) → is_server s ≡ true → 0 < s
at_least_one s is = ltb-true 0 s (both (nat_lt 0 s) (nat_le s MAX_SERVERS) is).0

pub at_most : (s : ℕ) → is_server s ≡ true → s ≤ MAX_SERVERS
at_most s is = let few = (both (nat_lt 0 s) (nat_le s MAX_SERVERS) is).1 in grind (arith, nat_tests, few)

-- the chain of an opening
chain_within : (from count : ℕ) → 0 < from → from + count ≤ MAX_SERVERS + 1
    → AllByRecursion IsMemberWithin (map (λ s. (s, 0)) (range_with_len from count))
chain_within from zero some few = tt
chain_within from (suc count) some few = (is_one from some (omega (arith, few)), chain_within (from + 1) count (omega arith) (omega (arith, few)))

numbers_from : (from count : ℕ) → 0 < from → from + count ≤ MAX_SERVERS + 1 → AllByRecursion IsServer (range_with_len from count)
numbers_from from zero some few = tt
numbers_from from (suc count) some few = (is_one from some (omega (arith, few)), numbers_from (from + 1) count (omega arith) (omega (arith, few)))

-- a choice between two neighbours
near_if : (b : Bool) (x y : Option Neighbour) → (b ≡ true → IsNear x) → (b ≡ false → IsNear y) → IsNear (if b then x else y)
near_if true x y first second = first refl
near_if false x y first second = second refl

named_if : (b : Bool) (x : Option ℕ) → IsNamed x → IsNamed (if b then x else None)
named_if true x named = named
named_if false x named = tt

module _ {M : Type 0} (machine : Does M) (servers clients : ℕ) (is : is_server servers ≡ true) where
  -- the servers of an opening
  member_within : (s : ℕ) → (s == 0) ≡ false → nat_lt servers s ≡ false
      → IsViewWithin clients (member machine (if s == 1 then None else Some (s - 1, 0)) (if s == servers then None else Some (s + 1, 0)))
  member_within s some few =
      let limit : servers ≤ MAX_SERVERS = at_most servers is in
      record {
        near_pred = near_if (s == 1) None (Some (s - 1, 0)) (λ one. tt) (λ other.
            let above : 0 < s - 1 = grind (arith, nat_tests, some, other) in
            let below : s - 1 ≤ MAX_SERVERS = grind (arith, nat_tests, few, limit) in
            is_one (s - 1) above below);
        near_succ = near_if (s == servers) None (Some (s + 1, 0)) (λ one. tt) (λ other.
            let below : s + 1 ≤ MAX_SERVERS = grind (arith, nat_tests, few, other, limit) in
            is_one (s + 1) (omega arith) below);
        of_clients = tt;
      }

  spare_within : IsViewWithin clients (spare {M = M})
  spare_within = record { near_pred = tt; near_succ = tt; of_clients = tt }

  server_within : (s : ℕ) → IsViewWithin clients (opening_server machine servers s)
  server_within s = elim (test (s == 0)) [
    | inl none ↦ rw none spare_within
    | inr some ↦ rw some (elim (test (nat_lt servers s)) [
      | inl beyond ↦ rw beyond spare_within
      | inr few ↦ rw few (member_within s some few)
    ])
  ]

  opening_within : IsWithin clients (opening_world machine servers clients)
  opening_within = record {
    counted = refl;
    used = numbers_from 1 servers (omega arith) (let limit : servers ≤ MAX_SERVERS = at_most servers is in omega (arith, limit));
    chain = let limit : servers ≤ MAX_SERVERS = at_most servers is in chain_within 1 servers (omega arith) (omega (arith, limit));
    views = server_within;
    callers = λ c. record {
      named_head = named_if (nat_lt c clients) (Some 1) refl;
      named_tail = named_if (nat_lt c clients) (Some servers) is;
      waits_not = λ beyond. refl;
    };
    sent = λ from to m among. absurd among;
  }

-- what is among an image of lists
among_parts : {A B : Type 0} (f : A → List B) (x : A) (y : B) (xs : List A) → Among x xs → Among y (f x) → Among y (flat_map f xs)
among_parts f x y (z ∷ xs) (inl e) part = among_first y (f z) (flat_map f xs) (subst (λ u. Among y (f u)) (sym e) part)
among_parts f x y (z ∷ xs) (inr among) part = among_second y (f z) (flat_map f xs) (among_parts f x y xs among part)
among_parts f x y [] among part = absurd among

-- a number of a range
among_range : (x from count : ℕ) → from ≤ x → x < from + count → Among x (range_with_len from count)
among_range x from zero low high = absurd (omega (arith, low, high))
among_range x from (suc count) low high = elim (test (from == x)) [
  | inl here ↦ inl (eqb-true from x here)
  | inr other ↦
      let above : from + 1 ≤ x = grind (arith, nat_tests, low, other) in
      inr (among_range x (from + 1) count above (omega (arith, high)))
]

-- a process of the world is visited
among_processes : (clients : ℕ) (p : Process) → is_process clients p ≡ true → Among p (processes clients)
among_processes clients p is =
    let place = where_is p is in
    subst (λ q. Among q (processes clients)) place.2
    (among_map process_at place.0 (range_with_len 0 (MAX_SERVERS + 1 + clients))
    (among_range place.0 0 (MAX_SERVERS + 1 + clients) (omega arith) place.1))
  where
    where_is : (q : Process) → is_process clients q ≡ true → (place : ℕ) × (place < 0 + (MAX_SERVERS + 1 + clients)) × (process_at place ≡ q)
    where_is Master is = (0, omega arith, refl)
    where_is (Server s) is =
        let limit : s ≤ MAX_SERVERS = at_most s is in (s, omega (arith, limit), process_at-server s (at_least_one s is) limit)
    where_is (Client c) is =
        let few : c < clients = ltb-true c clients is in (MAX_SERVERS + 1 + c, omega (arith, few), process_at-client c (MAX_SERVERS + 1 + c) refl)

-- and so is the link between two
among_deliveries : (clients : ℕ) (from to : Process) → is_process clients from ≡ true → is_process clients to ≡ true
    → Among (Take from to) (deliveries clients)
among_deliveries clients from to first second =
    among_parts (λ p. map (λ q. Take p q) (processes clients)) from (Take from to) (processes clients) (among_processes clients from first)
    (among_map (λ q. Take from q) to (processes clients) (among_processes clients to second))

-- a link of a world that is within its processes
visited : {M : Type 0} (clients : ℕ) (w : World M) (from to : Process) → IsWithin clients w → (link : List (MessageOf M)) → w.links from to ≡ link
    → (w.links from to ≡ []) ⊎ Among (Take from to) (deliveries clients)
visited clients w from to within [] is = inl is
visited clients w from to within (m ∷ more) is =
    let known = within.sent from to m (subst (Among m) (sym is) (inl refl)) in
    inr (among_deliveries clients from to known.0 known.1)

-- after a run it is so
pub after_within : (servers clients : ℕ) (events : List Event) → is_server servers ≡ true → IsWithin clients (world_after servers clients events)
after_within servers clients events is = run_within _ clients cached_tree (opening_world cached_tree servers clients) events
    (opening_within cached_tree servers clients is)

-- also from another tree
pub after_within_from : (t : Tree) (servers clients : ℕ) (events : List Event) → is_server servers ≡ true
    → IsWithin clients (world_after_from t servers clients events)
after_within_from t servers clients events is =
    run_within _ clients (cached_tree_from t) (opening_world_from t servers clients) events (opening_within (cached_tree_from t) servers clients is)

pub links_are_visited_from : (t : Tree) (servers clients : ℕ) (events : List Event) (from to : Process) → is_server servers ≡ true
    → ((world_after_from t servers clients events).links from to ≡ []) ⊎ Among (Take from to) (deliveries clients)
links_are_visited_from t servers clients events from to is =
    visited clients (world_after_from t servers clients events) from to (after_within_from t servers clients events is) _ refl

pub links_are_visited : LinksAreVisited
links_are_visited servers clients events from to is =
    visited clients (world_after servers clients events) from to (after_within servers clients events is) _ refl

-- what no one of a list passes, none that is among it passes
pub none_passes : {A : Type 0} (f : A → Bool) (x : A) (xs : List A) → Among x xs → list_any f xs ≡ false → f x ≡ false
none_passes f x (y ∷ ys) (inl e) none = subst (λ z. f z ≡ false) e (first_of_two (f y) (list_any f ys) none)
  where
    first_of_two : (b c : Bool) → (b || c) ≡ false → b ≡ false
    first_of_two false c none = refl
    first_of_two true c none = absurd (true≢false none)
none_passes f x (y ∷ ys) (inr among) none = none_passes f x ys among (second_of_two (f y) (list_any f ys) none)
  where
    second_of_two : (b c : Bool) → (b || c) ≡ false → c ≡ false
    second_of_two false c none = none
    second_of_two true c none = absurd (true≢false none)
none_passes f x [] among none = absurd among

-- where no visited link can be taken from, no link can
none_is_left : {M : Type 0} (clients : ℕ) (w : World M) (from to : Process) → (w.links from to ≡ []) ⊎ Among (Take from to) (deliveries clients)
    → list_any (is_enabled w) (deliveries clients) ≡ false → is_enabled w (Take from to) ≡ false
none_is_left clients w from to (inl empty) none = rw empty refl
none_is_left clients w from to (inr among) none = none_passes (is_enabled w) (Take from to) (deliveries clients) among none

pub quiet_is_quiet : QuietIsQuiet
quiet_is_quiet servers clients limit events outcomes from to is quiet =
    let w : World _ = world_after servers clients events in
    let within : IsWithin clients w = after_within servers clients events is in
    let done = settling_of w limit outcomes in
    let ended : IsWithin clients done.world =
    subst (IsWithin clients) (sym (settling_is_a_run cached_tree w limit outcomes)) (run_within _ clients cached_tree w done.events within) in
    let none : list_any (is_enabled done.world) (deliveries clients) ≡ false =
    subst (λ n. list_any (is_enabled done.world) (deliveries n) ≡ false) within.counted
    (quiet_has_nothing_to_take cached_tree w limit outcomes quiet) in
    none_is_left clients done.world from to (visited clients done.world from to ended (done.world.links from to) refl) none
