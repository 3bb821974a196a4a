-- Positions that are passed by: nothing is in flight from them, or to them.
use Rattle.std.proofs.Common.{Bool, ◌≡◌, ℕ, ◌+◌, ◌-◌, ◌<◌, ◌≤◌, zero, suc, false, List}
use Rattle.std.proofs.Common.{[], length, take, get_or, ◌∷◌, inl, inr, refl, sym, ap, subst, ◌∙◌, arith}
use Rattle.std.proofs.lemmas.List.{take_all}
use Rattle.std.proofs.lemmas.List.Folds.{list_any-append}
use Rattle.std.proofs.lemmas.List.FromFn.{get_or-map-range_with_len, length-map-range_with_len, map-range_with_len_more}
use Rattle.std.proofs.lemmas.Bool.Decides.{nat_tests}
use Rattle.std.specs.Prelude.{nat_lt, is_some}
use Rattle.std.specs.List.{list_any}
use Rattle.zcalls.proofs.Among.{test}
use Rattle.zprotocol.specs.declared.limits.TheConstants.{MAX_SERVERS, PROCESSES}
use Rattle.zprotocol.specs.declared.process.Process.{Process}
use Rattle.zprotocol.specs.declared.process.Process.TheVariants.{Client}
use Rattle.zprotocol.specs.Places.{place_of, process_at}
use Rattle.zprotocol.proofs.Places.{place_of-process_at}
use Rattle.zprotocol.specs.server.Machine.{cached_tree}
use Rattle.zprotocol.specs.declared.world.event.Event.TheVariants.{Retry}
use Rattle.zprotocol.specs.declared.world.outcome.Outcome.{Outcome}
use Rattle.zprotocol.specs.world.Events.{is_enabled}
use Rattle.zprotocol.specs.world.History.{History}
use Rattle.zprotocol.specs.world.Settle.{processes, retry_events, with_tries}
use Rattle.zprotocol.proofs.world_lemmas.Alike.{have_the_same_enabled}
use Rattle.zprotocol.proofs.world_lemmas.Settling.{none_is_done}
use Rattle.zworld.specs.links.Places.{links_of}
use Rattle.zworld.specs.links.support.Counts.{passing}
use Rattle.zworld.proofs.links_lemmas.Counts.{fails_at}
use Rattle.zactor.specs.Acting.{TreeStanding}
use Rattle.zprotocol.specs.world.Does.{AtMaster, AtServer, AtClient, Out}
use Rattle.zworld.specs.support.Standing.{waits}
use Rattle.zworld.specs.Held.{Held, SendsNothing, bystander, client_of, standing_at, kept_world}
use Rattle.zworld.specs.support.Settling.{Point, StandsAt, TreeSettling, Tries, takes, takes_from}
use Rattle.zworld.proofs.Tries.{silent_tries, empty_try, one_more_receiver, one_more_sender}

-- there are that many processes
pub length-processes : (clients : ℕ) → length (processes clients) ≡ MAX_SERVERS + 1 + clients
length-processes clients = length-map-range_with_len process_at 0 (MAX_SERVERS + 1 + clients)

-- each is at its position
pub listed : (clients place : ℕ) → place < MAX_SERVERS + 1 + clients → process_at place ≡ get_or (processes clients) place (process_at place)
listed clients place inside =
    sym (get_or-map-range_with_len process_at 0 (MAX_SERVERS + 1 + clients) place place (process_at place) inside (omega arith))

-- nothing is in flight on a channel that is empty
pub empty_link : (inside held : Held) (from to : Process) → inside ≡ held → links_of inside.links from to ≡ []
    → (kept_world held []).links from to ≡ []
empty_link inside held from to same none = ap (λ (h : Held). links_of h.links from to) (sym same) ∙ none

-- where no client waits, no call is sent once more
waits_not : (standing : TreeStanding) → waits standing ≡ false → is_some (client_of standing).outstanding ≡ false
waits_not (AtMaster v) not = refl
waits_not (AtServer v) not = refl
waits_not (AtClient v) not = not
waits_not Out not = refl

pub no_retries : (n : ℕ) (held : Held) (history : History) (left : ℕ) (outcomes : List Outcome) (s : TreeSettling)
    → passing waits held.actors ≡ 0 → StandsAt held history left outcomes s → with_tries cached_tree s (retry_events n) ≡ s
no_retries n held history left outcomes s none stands =
    none_is_done cached_tree s (retry_events n) (none_waits n)
  where
    none_waits : (m : ℕ) → list_any (is_enabled s.world) (retry_events m) ≡ false
    none_waits zero = refl
    none_waits (suc m) =
        let next : m + 1 ≡ suc m = omega arith in
        let idle : is_enabled s.world (Retry m) ≡ false =
        have_the_same_enabled cached_tree s.world (kept_world held history) (Retry m) stands.alike
        ∙ waits_not (standing_at held.actors (Client m)) (fails_at waits held.actors (place_of (Client m)) (bystander (Client m)) refl none) in
        subst (λ k. list_any (is_enabled s.world) (retry_events k) ≡ false) next
        (ap (list_any (is_enabled s.world)) (map-range_with_len_more Retry 0 m m (omega arith))
        ∙ list_any-append (is_enabled s.world) (retry_events m) (Retry m ∷ []) ∙ rw (none_waits m, idle) refl)

-- the process that was asked for by its position is that of the list
pub listed_as : (clients place : ℕ) (p : Process) → p ≡ process_at place → place < length (processes clients) → p ≡ get_or (processes clients) place p
listed_as clients place p is inside =
    subst (λ q. q ≡ get_or (processes clients) place q) (sym is) (listed clients place (omega (arith, inside, length-processes clients)))

-- what is after the end of a list isn't taken
pub past : {X : Type 0} (xs : List X) (n : ℕ) → length xs ≤ n → take (n + 1) xs ≡ take n xs
past xs n all = take_all (n + 1) xs (omega (arith, all)) ∙ sym (take_all n xs all)

-- a fact of each process from one position on, and before another
abbrev pub Within : ℕ → ℕ → (Process → Type 0) → Type 0
Within start end Fact = (p : Process) → start ≤ place_of p → place_of p < end → Fact p

module _ (strict : Bool) (clients : ℕ) (p : Point) where
  -- receivers to which nothing is in flight
  pub skipped_receivers : (from : Process) (a : Point) (place k : ℕ) → place + k ≤ PROCESSES
      → Within place (place + k) (λ to. (kept_world p.held []).links from to ≡ [])
      → Tries strict (takes_from (take place (processes clients)) from) a p
      → Tries strict (takes_from (take (place + k) (processes clients)) from) a p
  skipped_receivers from a place zero few none tries =
      subst (λ n. Tries strict (takes_from (take n (processes clients)) from) a p) (let same : place ≡ place + 0 = omega arith in same) tries
  skipped_receivers from a place (suc k) few none tries =
      let next : (place + k) + 1 ≡ place + suc k = omega arith in
      let before = skipped_receivers from a place k (omega (arith, few)) (λ to behind here. none to behind (omega (arith, here))) tries in
      let to = process_at (place + k) in
      let at : place_of to ≡ place + k = place_of-process_at (place + k) (omega (arith, few)) in
      subst (λ n. Tries strict (takes_from (take n (processes clients)) from) a p) next
      (elim (test (nat_lt (place + k) (MAX_SERVERS + 1 + clients))) [
        | inl inside ↦
            let small : place + k < MAX_SERVERS + 1 + clients = grind (arith, nat_tests, inside) in
            one_more_receiver strict (processes clients) (place + k) from to a p p (omega (arith, small, length-processes clients))
            (listed clients (place + k) small) before
            (empty_try strict from to p (none to (omega (arith, at)) (omega (arith, at))))
        | inr outside ↦
            let large : MAX_SERVERS + 1 + clients ≤ place + k = grind (arith, nat_tests, outside) in
            subst (λ ps. Tries strict (takes_from ps from) a p)
            (sym (past (processes clients) (place + k) (omega (arith, large, length-processes clients)))) before
      ])

  pub receivers_to : (from : Process) (a : Point) (place next : ℕ) → place ≤ next → next ≤ PROCESSES
      → Within place next (λ to. (kept_world p.held []).links from to ≡ [])
      → Tries strict (takes_from (take place (processes clients)) from) a p → Tries strict (takes_from (take next (processes clients)) from) a p
  receivers_to from a place next ahead few none tries =
      let far : place + (next - place) ≡ next = omega (arith, ahead) in
      subst (λ n. Tries strict (takes_from (take n (processes clients)) from) a p) far
      (skipped_receivers from a place (next - place) (omega (arith, far, few))
      (λ to behind before. none to behind (omega (arith, before, far))) tries)

  -- and senders of which nothing is
  pub skipped_senders : (a : Point) (place k : ℕ) → place + k ≤ PROCESSES
      → Within place (place + k) (SendsNothing (kept_world p.held []))
      → Tries strict (takes (processes clients) (take place (processes clients))) a p
      → Tries strict (takes (processes clients) (take (place + k) (processes clients))) a p
  skipped_senders a place zero few none tries =
      subst (λ n. Tries strict (takes (processes clients) (take n (processes clients))) a p)
      (let same : place ≡ place + 0 = omega arith in same) tries
  skipped_senders a place (suc k) few none tries =
      let next : (place + k) + 1 ≡ place + suc k = omega arith in
      let before = skipped_senders a place k (omega (arith, few)) (λ from behind here. none from behind (omega (arith, here))) tries in
      let from = process_at (place + k) in
      let at : place_of from ≡ place + k = place_of-process_at (place + k) (omega (arith, few)) in
      subst (λ n. Tries strict (takes (processes clients) (take n (processes clients))) a p) next
      (elim (test (nat_lt (place + k) (MAX_SERVERS + 1 + clients))) [
        | inl inside ↦
            let small : place + k < MAX_SERVERS + 1 + clients = grind (arith, nat_tests, inside) in
            one_more_sender strict (processes clients) (processes clients) (place + k) from a p p (omega (arith, small, length-processes clients))
            (listed clients (place + k) small) before
            (silent_tries strict from (processes clients) p (none from (omega (arith, at)) (omega (arith, at))))
        | inr outside ↦
            let large : MAX_SERVERS + 1 + clients ≤ place + k = grind (arith, nat_tests, outside) in
            subst (λ ps. Tries strict (takes (processes clients) ps) a p)
            (sym (past (processes clients) (place + k) (omega (arith, large, length-processes clients)))) before
      ])

  pub senders_to : (a : Point) (place next : ℕ) → place ≤ next → next ≤ PROCESSES
      → Within place next (SendsNothing (kept_world p.held []))
      → Tries strict (takes (processes clients) (take place (processes clients))) a p
      → Tries strict (takes (processes clients) (take next (processes clients))) a p
  senders_to a place next ahead few none tries =
      let far : place + (next - place) ≡ next = omega (arith, ahead) in
      subst (λ n. Tries strict (takes (processes clients) (take n (processes clients))) a p) far
      (skipped_senders a place (next - place) (omega (arith, far, few)) (λ from behind before. none from behind (omega (arith, before, far))) tries)
