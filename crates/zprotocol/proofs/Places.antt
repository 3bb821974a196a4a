-- The order of processes: a position and its process.
use Rattle.std.proofs.Common.{◌≡◌, ℕ, ◌+◌, ◌-◌, ◌<◌, ◌≤◌, zero, suc, true, false, if◌then◌else◌, refl, ap, ◌∙◌, inl, inr, arith}
use Rattle.std.specs.Prelude.{◌==◌, nat_lt, nat_le}
use Rattle.std.proofs.lemmas.Bool.Decides.{nat_tests}
use Rattle.zcalls.proofs.Among.{test}
use Rattle.ztree.specs.declared.limits.TheConstants.{MAX_CLIENTS}
use Rattle.zprotocol.specs.declared.limits.TheConstants.{MAX_SERVERS, PROCESSES}
use Rattle.zprotocol.specs.declared.process.Process.TheVariants.{Server, Client}
use Rattle.zprotocol.specs.Places.{is_server, place_of, process_at}

-- a server's position, and a client's
pub place_of-server : (s : ℕ) → 0 < s → s ≤ MAX_SERVERS → place_of (Server s) ≡ s
place_of-server s some few =
    let is : is_server s ≡ true = grind (arith, nat_tests, some, few) in
    ap (λ b. if b then s else PROCESSES) is

pub place_of-client : (c : ℕ) → c < MAX_CLIENTS → place_of (Client c) ≡ MAX_SERVERS + 1 + c
place_of-client c few =
    let is : nat_lt c MAX_CLIENTS ≡ true = grind (arith, nat_tests, few) in
    ap (λ b. if b then MAX_SERVERS + 1 + c else PROCESSES) is

-- the process at a server's position, and in a client's
pub process_at-server : (s : ℕ) → 0 < s → s ≤ MAX_SERVERS → process_at s ≡ Server s
process_at-server s some few =
    let not_first : (s == 0) ≡ false = grind (arith, nat_tests, some) in
    let small : nat_le s MAX_SERVERS ≡ true = grind (arith, nat_tests, few) in
    rw (not_first, small) refl

pub process_at-client : (c place : ℕ) → place ≡ MAX_SERVERS + 1 + c → process_at place ≡ Client c
process_at-client c place is =
    let not_first : (place == 0) ≡ false = grind (arith, nat_tests, is) in
    let large : nat_le place MAX_SERVERS ≡ false = grind (arith, nat_tests, is) in
    let number : place - (MAX_SERVERS + 1) ≡ c = omega (arith, is) in
    rw (not_first, large) (ap Client number)

-- each process is at its position
pub place_of-process_at : (place : ℕ) → place < PROCESSES → place_of (process_at place) ≡ place
place_of-process_at zero inside = refl
place_of-process_at (suc n) inside = elim (test (nat_lt n MAX_SERVERS)) [
  | inl small ↦
      let few : suc n ≤ MAX_SERVERS = grind (arith, nat_tests, small) in
      ap place_of (process_at-server (suc n) (omega arith) few) ∙ place_of-server (suc n) (omega arith) few
  | inr large ↦
      let many : MAX_SERVERS ≤ n = grind (arith, nat_tests, large) in
      let here : suc n ≡ MAX_SERVERS + 1 + (n - MAX_SERVERS) = omega (arith, many) in
      let few : n - MAX_SERVERS < MAX_CLIENTS = omega (arith, many, inside) in
      ap place_of (process_at-client (n - MAX_SERVERS) (suc n) here) ∙ place_of-client (n - MAX_SERVERS) few
      ∙ (let same : MAX_SERVERS + 1 + (n - MAX_SERVERS) ≡ suc n = omega (arith, many) in same)
]
