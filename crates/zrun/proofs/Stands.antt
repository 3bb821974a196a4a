-- Who is at which position.
use Rattle.std.proofs.Common.{◌≡◌, ◌<◌, ◌≤◌, ◌-◌, ◌+◌, ◌==◌, ℕ, zero, suc, Bool, true, false, true≢false, nat_le}
use Rattle.std.proofs.Common.{if◌then◌else◌, refl, sym, ap, subst, ◌∙◌, ⊎_elim, eqb-true, eq-eqb, arith}
use Rattle.std.proofs.lemmas.Bool.Decides.{nat_tests}
use Rattle.zprotocol.specs.declared.limits.TheConstants.{MAX_SERVERS}
use Rattle.zprotocol.specs.declared.process.Process.{Process}
use Rattle.zprotocol.specs.declared.process.Process.TheVariants.{Master, Server, Client}
use Rattle.zprotocol.specs.world.Links.{is_same}
use Rattle.zprotocol.proofs.world_lemmas.Processes.{same_itself, same_process}
use Rattle.zprotocol.specs.Places.{process_at}
use Rattle.zthreads.specs.Endpoints.{IsOutside}
use Rattle.zthreads.proofs.Wires.{apart}
use Rattle.zchannels.proofs.Said.{at_most}

-- a process is at one of that many positions, or at none
pub data Found (p : Process) (n : ℕ) : Type 0 where
  Inside : (i : ℕ) → i < n → p ≡ process_at i → Found p n
  Outside : IsOutside p n → Found p n

one_more : (p : Process) (n : ℕ) (b : Bool) → is_same p (process_at n) ≡ b → Found p n → Found p (suc n)
one_more p n true is found = Inside n (omega arith) (same_process p (process_at n) is)
one_more p n false is (Inside i lt at) = Inside i (omega (arith, lt)) at
one_more p n false is (Outside out) =
    Outside (λ i lt. ⊎_elim (λ before. out i before) (λ here. subst (λ k. is_same p (process_at k) ≡ false) (sym here) is)
    (at_most i n (omega (arith, lt))))

pub find : (p : Process) (n : ℕ) → Found p n
find p zero = Outside (λ i lt. absurd (omega (arith, lt)))
find p (suc n) = one_more p n (is_same p (process_at n)) refl (find p n)

pub same_at : (p : Process) (i : ℕ) → p ≡ process_at i → is_same p (process_at i) ≡ true
same_at p i at = ap (λ q. is_same p q) (sym at) ∙ same_itself p

-- a process of positions, by what they are compared with
abbrev pick : Bool → Bool → ℕ → Process
pick a b i = if a then Master else if b then Server i else Client (i - (MAX_SERVERS + 1))

master_by : (i : ℕ) (a b : Bool) → (i == 0) ≡ a → nat_le i MAX_SERVERS ≡ b → is_same Master (pick a b i) ≡ true → i ≡ 0
master_by i true b p q same = grind (arith, nat_tests)
master_by i false true p q same = absurd (true≢false (sym same))
master_by i false false p q same = absurd (true≢false (sym same))

pub master_at : (i : ℕ) → is_same Master (process_at i) ≡ true → i ≡ 0
master_at i same = master_by i (i == 0) (nat_le i MAX_SERVERS) refl refl same

server_by : (i s : ℕ) (a b : Bool) → (i == 0) ≡ a → nat_le i MAX_SERVERS ≡ b → is_same (Server s) (pick a b i) ≡ true
    → (i ≡ s) × (0 < i) × (i ≤ MAX_SERVERS)
server_by i s true b p q same = absurd (true≢false (sym same))
server_by i s false true p q same = (sym (eqb-true s i same), grind (arith, nat_tests), grind (arith, nat_tests))
server_by i s false false p q same = absurd (true≢false (sym same))

pub server_at : (i s : ℕ) → is_same (Server s) (process_at i) ≡ true → (i ≡ s) × (0 < i) × (i ≤ MAX_SERVERS)
server_at i s same = server_by i s (i == 0) (nat_le i MAX_SERVERS) refl refl same

client_by : (i c : ℕ) (a b : Bool) → (i == 0) ≡ a → nat_le i MAX_SERVERS ≡ b → is_same (Client c) (pick a b i) ≡ true → i ≡ MAX_SERVERS + 1 + c
client_by i c true b p q same = absurd (true≢false (sym same))
client_by i c false true p q same = absurd (true≢false (sym same))
client_by i c false false p q same =
    let at : c ≡ i - (MAX_SERVERS + 1) = eqb-true c (i - (MAX_SERVERS + 1)) same in
    let beyond : MAX_SERVERS < i = grind (arith, nat_tests) in
    omega (arith, at, beyond)

pub client_at : (i c : ℕ) → is_same (Client c) (process_at i) ≡ true → i ≡ MAX_SERVERS + 1 + c
client_at i c same = client_by i c (i == 0) (nat_le i MAX_SERVERS) refl refl same

-- a server and a client are at their positions
here_server : (s : ℕ) (a b : Bool) → (s == 0) ≡ a → nat_le s MAX_SERVERS ≡ b → 0 < s → s ≤ MAX_SERVERS → is_same (Server s) (pick a b s) ≡ true
here_server s true b p q some few = absurd (let none : s ≡ 0 = eqb-true s 0 p in omega (arith, none, some))
here_server s false true p q some few = eq-eqb s s refl
here_server s false false p q some few = absurd (let many : MAX_SERVERS < s = grind (arith, nat_tests) in omega (arith, many, few))

pub server_here : (s : ℕ) → 0 < s → s ≤ MAX_SERVERS → is_same (Server s) (process_at s) ≡ true
server_here s some few = here_server s (s == 0) (nat_le s MAX_SERVERS) refl refl some few

here_client : (i c : ℕ) (a b : Bool) → i ≡ MAX_SERVERS + 1 + c → (i == 0) ≡ a → nat_le i MAX_SERVERS ≡ b → is_same (Client c) (pick a b i) ≡ true
here_client i c true b at p q = absurd (let none : i ≡ 0 = eqb-true i 0 p in omega (arith, none, at))
here_client i c false true at p q = absurd (let few : i ≤ MAX_SERVERS = grind (arith, nat_tests) in omega (arith, few, at))
here_client i c false false at p q = eq-eqb c (i - (MAX_SERVERS + 1)) (omega (arith, at))

pub client_here : (i c : ℕ) → i ≡ MAX_SERVERS + 1 + c → is_same (Client c) (process_at i) ≡ true
client_here i c at = here_client i c (i == 0) (nat_le i MAX_SERVERS) at refl refl

-- no process is at two positions
place_by : (i j : ℕ) (b : Bool) → (i == j) ≡ b → process_at i ≡ process_at j → i ≡ j
place_by i j true p same = eqb-true i j p
place_by i j false p same =
    absurd (true≢false (sym (same_at (process_at i) j same) ∙ apart i j (λ one. true≢false (sym (eq-eqb i j one) ∙ p))))

pub one_place : (i j : ℕ) → process_at i ≡ process_at j → i ≡ j
one_place i j same = place_by i j (i == j) refl same
