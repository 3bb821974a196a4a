-- The places of processes, and what stands there.
use Rattle.std.proofs.Common.{◌≡◌, ◌≢◌, ℕ, zero, suc, ◌+◌, ◌<◌, ◌≤◌, List, [], length, replicate, get_or, set, Option, None, Some, refl, sym, ap, subst, ◌∙◌, inl, inr, if◌then◌else◌, arith}
use Rattle.std.specs.Prelude.{nat_lt, IfSome}
use Rattle.std.proofs.lemmas.List.{get_or_read, get_or-set_same, get_or-set_other, set-get_or}
use Rattle.std.proofs.lemmas.Bool.Decides.{nat_tests}
use Rattle.ztree.specs.declared.limits.TheConstants.{MAX_CLIENTS}
use Rattle.zcalls.proofs.Among.{test}
use Rattle.zprotocol.specs.declared.limits.TheConstants.{MAX_SERVERS, PROCESSES}
use Rattle.zprotocol.specs.declared.process.Process.{Process}
use Rattle.zprotocol.specs.declared.process.Process.TheVariants.{Master, Server, Client}
use Rattle.zprotocol.specs.Places.{is_server, place_of, process_at}
use Rattle.zprotocol.proofs.Places.{place_of-server, place_of-client, process_at-server, process_at-client, place_of-process_at}
use Rattle.zpeers.specs.Outgoing.{OutgoingView, place_after, NoneWaits, IsNextReceiver}

-- each process with a place is the one that stands there
pub stands_there : (p : Process) → place_of p < PROCESSES → process_at (place_of p) ≡ p
stands_there Master inside = refl
stands_there (Server s) inside = elim (test (is_server s)) [
  | inl is ↦
      let some : 0 < s = grind (arith, nat_tests, is) in
      let few : s ≤ MAX_SERVERS = grind (arith, nat_tests, is) in
      ap process_at (place_of-server s some few) ∙ process_at-server s some few
  | inr none ↦
      let far : place_of (Server s) ≡ PROCESSES = ap (λ b. if b then s else PROCESSES) none in
      absurd (omega (arith, far, inside))
]
stands_there (Client c) inside = elim (test (nat_lt c MAX_CLIENTS)) [
  | inl is ↦
      let few : c < MAX_CLIENTS = grind (arith, nat_tests, is) in
      process_at-client c (place_of (Client c)) (place_of-client c few)
  | inr none ↦
      let far : place_of (Client c) ≡ PROCESSES = ap (λ b. if b then MAX_SERVERS + 1 + c else PROCESSES) none in
      absurd (omega (arith, far, inside))
]

-- two processes with places have two
pub other_place : (p q : Process) → place_of q < PROCESSES → p ≢ q → place_of p ≢ place_of q
other_place p q inside other same =
    let within : place_of p < PROCESSES = omega (arith, same, inside) in
    other (sym (stands_there p within) ∙ ap process_at same ∙ stands_there q inside)

module _ {A : Type 0} (d : A) (xs : List A) (q : Process) (x : A) (inside : place_of q < PROCESSES) (all : length xs ≡ PROCESSES) where
  -- what was put in a process's place stands there
  pub there : get_or (set xs (place_of q) x) (place_of q) d ≡ x
  there = get_or-set_same xs (place_of q) x d (omega (arith, inside, all))

  -- and what stands in other places stays
  pub elsewhere : (p : Process) → p ≢ q → get_or (set xs (place_of q) x) (place_of p) d ≡ get_or xs (place_of p) d
  elsewhere p other = get_or-set_other xs (place_of q) (place_of p) x d (other_place p q inside other)

-- a list of one value has it everywhere
pub same_everywhere : {A : Type 0} (d : A) (n i : ℕ) → get_or (replicate n d) i d ≡ d
same_everywhere d zero i = refl
same_everywhere d (suc n) zero = refl
same_everywhere d (suc n) (suc i) = same_everywhere d n i

-- ---- the first receiver for which something waits

pub none_yet : (o : OutgoingView) (low : ℕ) → NoneWaits o low low
none_yet o low p from below = absurd (omega (arith, from, below))

pub one_more : (o : OutgoingView) (low high : ℕ) → NoneWaits o low high → get_or o.queues high [] ≡ [] → NoneWaits o low (high + 1)
one_more o low high none here p from below = elim (test (nat_lt (place_of p) high)) [
  | inl is ↦ none p from (let small : place_of p < high = grind (arith, nat_tests, is) in small)
  | inr large_is ↦
      let large : high ≤ place_of p = grind (arith, nat_tests, large_is) in
      let same : place_of p ≡ high = omega (arith, large, below) in
      ap (λ (i : ℕ). get_or o.queues i []) same ∙ here
]

pub is_next : (o : OutgoingView) (after : Option Process) (low place : ℕ) (to : Process) → low ≡ place_after after → place < PROCESSES
    → low ≤ place → NoneWaits o low place → get_or o.queues place [] ≢ [] → to ≡ process_at place → IsNextReceiver o after to
is_next o after low place to begins inside from none some is =
    let here : place_of to ≡ place = ap place_of is ∙ place_of-process_at place inside in
    record {
      waits = λ empty. some (ap (λ (i : ℕ). get_or o.queues i []) (sym here) ∙ empty);
      later = omega (arith, begins, from, here);
      first = λ p low_p high_p. none p (omega (arith, begins, low_p)) (omega (arith, here, high_p));
    }

pub if_some : {A : Type 0} (P Q : A → Type 0) (o : Option A) → ((x : A) → P x → Q x) → IfSome o P → IfSome o Q
if_some P Q None so p = tt
if_some P Q (Some x) so p = so x p

-- ---- one place is written

module _ {A : Type 0} (d : A) (xs : List A) (i : ℕ) (p : Process) (here : i ≡ place_of p) (inside : i < PROCESSES) (all : length xs ≡ PROCESSES) where
  within : place_of p < PROCESSES
  within = subst (λ (k : ℕ). k < PROCESSES) here inside

  -- what is read there is what stands in the process's place
  pub read_is : (x : A) → x ≡ get_or xs i x → x ≡ get_or xs (place_of p) d
  read_is x read = get_or_read xs i x (omega (arith, inside, all)) read d ∙ ap (λ (k : ℕ). get_or xs k d) here

  pub new_is : (y : A) → get_or (set xs i y) (place_of p) d ≡ y
  new_is y = ap (λ (k : ℕ). get_or (set xs k y) (place_of p) d) here ∙ there d xs p y within all

  pub others_are : (y : A) (q : Process) → q ≢ p → get_or (set xs i y) (place_of q) d ≡ get_or xs (place_of q) d
  others_are y q other = ap (λ (k : ℕ). get_or (set xs k y) (place_of q) d) here ∙ elsewhere d xs p y within all q other

-- what is put back changes nothing
pub put_back : {A : Type 0} (xs : List A) (i : ℕ) (x y : A) → y ≡ x → x ≡ get_or xs i x → set xs i y ≡ xs
put_back xs i x y same read = ap (λ z. set xs i z) (same ∙ read) ∙ set-get_or xs i x
