-- Processes and their positions.
use Rattle.std.proofs.Common.{◌≡◌, false, ℕ, ◌+◌, ◌<◌, ◌≤◌, refl, sym, ap, ◌∙◌, arith, inl, inr, eqb-true, eq-eqb}
use mathlib.Core.Bool.{true≢false}
use Rattle.std.specs.Prelude.{nat_lt, ◌==◌}
use Rattle.zprotocol.proofs.world_lemmas.Processes.{same_process, same_itself}
use Rattle.zprotocol.proofs.world_lemmas.Visited.{at_least_one, at_most}
use Rattle.zcalls.proofs.Among.{test}
use Rattle.ztree.specs.declared.limits.TheConstants.{MAX_CLIENTS}
use Rattle.zprotocol.specs.declared.limits.TheConstants.{MAX_SERVERS, PROCESSES}
use Rattle.zprotocol.specs.declared.process.Process.{Process}
use Rattle.zprotocol.specs.declared.process.Process.TheVariants.{Master, Server, Client}
use Rattle.zprotocol.specs.Places.{is_server, place_of, process_at}
use Rattle.zprotocol.proofs.Places.{process_at-server, process_at-client}
use Rattle.zprotocol.specs.world.Links.{is_same}

-- a server's position, and a client's
pub server_place : (s : ℕ) → place_of (Server s) < PROCESSES → (place_of (Server s) ≡ s) × (s ≤ MAX_SERVERS) × (0 < s)
server_place s few = elim (test (is_server s)) [
  | inl is ↦
      let some : 0 < s = at_least_one s is in
      let most : s ≤ MAX_SERVERS = at_most s is in
      rw is (refl, most, some)
  | inr not ↦ let never : PROCESSES < PROCESSES = rw not at few in absurd (omega (arith, never))
]

client_place : (c : ℕ) → place_of (Client c) < PROCESSES → place_of (Client c) ≡ MAX_SERVERS + 1 + c
client_place c few = elim (test (nat_lt c MAX_CLIENTS)) [
  | inl is ↦ rw is refl
  | inr not ↦ let never : PROCESSES < PROCESSES = rw not at few in absurd (omega (arith, never))
]

-- the master has the first position, alone
pub at_first : (p : Process) → place_of p ≡ 0 → p ≡ Master
at_first Master is = refl
at_first (Server s) is = let stands = server_place s (omega (arith, is)) in absurd (omega (arith, is, stands.0, stands.2))
at_first (Client c) is = let far = client_place c (omega (arith, is)) in absurd (omega (arith, is, far))

pub behind_first : (p : Process) → 0 < place_of p → is_same p Master ≡ false
behind_first Master some = absurd (omega (arith, some))
behind_first (Server s) some = refl
behind_first (Client c) some = refl

-- the process at a process's position is that one
pub process_at-place_of : (p : Process) → place_of p < PROCESSES → process_at (place_of p) ≡ p
process_at-place_of Master few = refl
process_at-place_of (Server s) few = let at = server_place s few in ap process_at at.0 ∙ process_at-server s at.2 at.1
process_at-place_of (Client c) few = process_at-client c (place_of (Client c)) (client_place c few)

-- whether a process is another is decided by its position
pub by_place : (p q : Process) (place : ℕ) → place ≡ place_of q → place < PROCESSES → (place == place_of p) ≡ is_same p q
by_place p q place is small = elim (test (is_same p q)) [
  | inl same ↦ eq-eqb place (place_of p) (is ∙ ap place_of (sym (same_process p q same))) ∙ sym same
  | inr other ↦ elim (test (place == place_of p)) [
    | inl here ↦
        let at : place ≡ place_of p = eqb-true place (place_of p) here in
        let one : p ≡ q =
        sym (process_at-place_of p (omega (arith, at, small))) ∙ ap process_at (sym at ∙ is) ∙ process_at-place_of q (omega (arith, is, small)) in
        absurd (true≢false (sym (ap (is_same p) (sym one) ∙ same_itself p) ∙ other))
    | inr elsewhere ↦ elsewhere ∙ sym other
  ]
]
