-- The standings of processes in an opening, and the world that this is.
use Rattle.std.proofs.Common.{◌≡◌, ℕ, ◌≤◌, ◌<◌, true, false, List, [], ◌∷◌, length, map}
use Rattle.std.proofs.Common.{refl, sym, ap, ◌∙◌, inl, inr, arith, zero-add, lt-ltb, le-ltb, ltb-true}
use Rattle.std.specs.Prelude.{nat_lt, ◌==◌}
use Rattle.std.specs.List.{range_with_len}
use Rattle.std.proofs.lemmas.Bool.{ltb-false}
use Rattle.std.proofs.lemmas.Bool.Decides.{nat_tests}
use Rattle.std.proofs.lemmas.List.{get_or_past}
use Rattle.std.proofs.lemmas.List.FromFn.{length-map-range_with_len, get_or-map-range_with_len}
use mathlib.Core.Bool.{true≢false}
use mathlib.Core.Path.{fun_ext}
use Rattle.ztree.specs.Tree.{Tree}
use Rattle.ztree.specs.declared.limits.TheConstants.{MAX_CLIENTS}
use Rattle.zcalls.specs.Cached.{CachedState}
use Rattle.zcalls.proofs.Among.{test}
use Rattle.zprotocol.specs.declared.limits.TheConstants.{MAX_SERVERS, PROCESSES}
use Rattle.zprotocol.specs.declared.process.Process.{Process}
use Rattle.zprotocol.specs.declared.process.Process.TheVariants.{Master, Server, Client}
use Rattle.zprotocol.specs.Places.{place_of, process_at}
use Rattle.zprotocol.proofs.Places.{place_of-server, place_of-client}
use Rattle.zprotocol.specs.server.Machine.{Does}
use Rattle.zprotocol.specs.server.View.{opening_server, spare}
use Rattle.zprotocol.specs.client.View as client
use Rattle.zworld.specs.links.Places.{links_of, Notes}
use Rattle.zworld.specs.links.support.Counts.{passing}
use Rattle.zworld.proofs.links_lemmas.Places.{process_at-place_of}
use Rattle.zactor.specs.Acting.{TreeStanding, TreePost, can_stand, has_stopped}
use Rattle.zprotocol.specs.world.Does.{AtServer, AtClient}
use Rattle.zprotocol.specs.world.World.{opening_world}
use Rattle.zworld.specs.Held.{HeldChannels, bystander, standing_at, master_of, view_of, client_of, nobody, kept_world}
use Rattle.zworld.specs.support.Opening.{opening_actor}
use Rattle.zworld.specs.support.Standing.{waits, IsFull}

-- what is at most a limit is at most any larger number
few_behind : {limit : ℕ} (n m : ℕ) → n ≤ limit → limit ≤ m → n ≤ m
few_behind n m few behind = omega (arith, few, behind)

module _ (machine : Does (CachedState Tree)) (last clients : ℕ) (few : last ≤ MAX_SERVERS) (few_clients : clients ≤ MAX_CLIENTS) where
  abbrev at : Process → TreeStanding
  at p = opening_actor machine last clients p

  abbrev all_actors : List TreeStanding
  all_actors = map (λ place. at (process_at place)) (range_with_len 0 PROCESSES)

  -- a server that there isn't takes no part, and neither does such a client
  no_server : (s : ℕ) → PROCESSES ≤ place_of (Server s) → spare ≡ opening_server machine last s
  no_server s far = elim (test (s == 0)) [
    | inl none ↦ rw none refl
    | inr some ↦ elim (test (nat_lt MAX_SERVERS s)) [
      | inl behind ↦ rw (some, lt-ltb last s (omega (arith, few, ltb-true MAX_SERVERS s behind))) refl
      | inr within ↦
          let first : 0 < s = grind (arith, nat_tests, some) in
          absurd (omega (arith, far, place_of-server s first (ltb-false MAX_SERVERS s within), ltb-false MAX_SERVERS s within))
    ]
  ]

  no_client : (c : ℕ) → PROCESSES ≤ place_of (Client c) → nobody ≡ client.opening_client last clients c
  no_client c far = elim (test (nat_lt c MAX_CLIENTS)) [
    | inl inside ↦
        let small : c < MAX_CLIENTS = ltb-true c MAX_CLIENTS inside in
        absurd (omega (arith, far, place_of-client c small, small))
    | inr outside ↦ rw (le-ltb c clients (few_behind clients c few_clients (ltb-false c MAX_CLIENTS outside))) refl
  ]

  no_process : (p : Process) → PROCESSES ≤ place_of p → bystander p ≡ at p
  no_process Master far = absurd (omega (arith, far))
  no_process (Server s) far = ap AtServer (no_server s far)
  no_process (Client c) far = ap AtClient (no_client c far)

  -- the standing of each process in the opening
  pub opening_at : (p : Process) → standing_at all_actors p ≡ at p
  opening_at p = elim (test (nat_lt (place_of p) PROCESSES)) [
    | inl inside ↦
        let small : place_of p < PROCESSES = ltb-true (place_of p) PROCESSES inside in
        get_or-map-range_with_len (λ place. at (process_at place)) 0 PROCESSES (place_of p) (place_of p) (bystander p) small (omega arith)
        ∙ ap at (process_at-place_of p small)
    | inr outside ↦
        let far : PROCESSES ≤ place_of p = ltb-false (place_of p) PROCESSES outside in
        let long = length-map-range_with_len (λ place. at (process_at place)) 0 PROCESSES in
        get_or_past all_actors (place_of p) (bystander p) (rw long far) ∙ no_process p far
  ]

  stands_there : (p : Process) → can_stand p (at p) ≡ true
  stands_there Master = refl
  stands_there (Server s) = refl
  stands_there (Client c) = refl

  waits_not : (p : Process) → waits (at p) ≡ false
  waits_not Master = refl
  waits_not (Server s) = refl
  waits_not (Client c) = refl

  none_wait : (places : List ℕ) → 0 ≡ passing waits (map (λ place. at (process_at place)) places)
  none_wait [] = refl
  none_wait (place ∷ places) = rw (waits_not (process_at place)) (none_wait places ∙ sym (zero-add _))

  module _ (actors : List TreeStanding) (channels : HeldChannels) (are : actors ≡ all_actors) where
    stands_as : (p : Process) → standing_at actors p ≡ at p
    stands_as p = ap (λ (xs : List TreeStanding). standing_at xs p) are ∙ opening_at p

    -- it is the initial world
    pub opens : ((from to : Process) → links_of channels from to ≡ [])
        → kept_world (record { actors = actors; links = channels }) [] ≡ opening_world machine last clients
    opens empty = λ i. record {
      servers = fun_ext (λ s. ap view_of (stands_as (Server s))) i;
      clients = fun_ext (λ c. ap client_of (stands_as (Client c))) i;
      master = ap master_of (stands_as Master) i;
      failed = fun_ext (λ s. ap has_stopped (stands_as (Server s))) i;
      links = fun_ext (λ from. fun_ext (λ to. empty from to)) i;
      history = [];
    }

    -- and all are there
    pub opens_full : (posts : List TreePost) → posts ≡ [] → Notes channels (λ p. false) → IsFull actors channels posts 0
    opens_full posts silent none = record {
      all = ap length are ∙ length-map-range_with_len (λ place. at (process_at place)) 0 PROCESSES;
      stand = λ p. ap (can_stand p) (stands_as p) ∙ stands_there p;
      noted = λ p is. absurd (true≢false (sym is ∙ none p));
      sent = silent;
      counted = none_wait (range_with_len 0 PROCESSES) ∙ ap (passing waits) (sym are);
    }
