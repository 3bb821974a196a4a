-- The merge of traces is one list.
use Rattle.std.proofs.Common.{◌≡◌, ◌<◌, ℕ, Bool, true, false, cond, ◌==◌, nat_lt, List, [], ◌∷◌, refl, sym, ap, ◌∙◌, subst, inl, inr, eq-eqb, arith}
use Rattle.std.specs.Prelude.{◌&&◌, ◌||◌}
use Rattle.std.proofs.lemmas.Bool.Decides.{nat_tests}
use Rattle.zcalls.proofs.Among.{test}
use Rattle.zprotocol.specs.declared.process.Process.{Process}
use Rattle.zprotocol.specs.world.Links.{is_same}
use Rattle.zprotocol.specs.declared.traces.trace.TraceEvent.{TraceEvent}
use Rattle.zprotocol.specs.declared.traces.trace.Traces.{Traces}
use Rattle.zprotocol.specs.Places.{place_of}
use Rattle.zprotocol.specs.traces.Traces.{Step, trace_of, at_process, Merges, IsMerge}
use Rattle.zprotocol.specs.traces.support.Places.{place_count, process_at}
use Rattle.zprotocol.proofs.world_lemmas.Processes.{same_process}
use Rattle.zprotocol.proofs.traces_lemmas.Places.{placed, where_at}

first_false : (a b : Bool) → (a || b) ≡ false → a ≡ false
first_false true b h = absurd (cc h)
first_false false b h = refl

second_false : (a b : Bool) → (a || b) ≡ false → b ≡ false
second_false true b h = absurd (cc h)
second_false false b h = h

-- of two that don't come before each other both are at one position
same_place : (s r p q : ℕ) → (nat_lt s r || (s == r && nat_lt p q)) ≡ false → (nat_lt r s || (r == s && nat_lt q p)) ≡ false → p ≡ q
same_place s r p q h k =
    let a : nat_lt s r ≡ false = first_false _ _ h in
    let b : nat_lt r s ≡ false = first_false _ _ k in
    let tie : s ≡ r = grind (arith, nat_tests, a, b) in
    let e : nat_lt p q ≡ false = ap (λ x. x && nat_lt p q) (sym (eq-eqb s r tie)) ∙ second_false (nat_lt s r) _ h in
    let f : nat_lt q p ≡ false = ap (λ x. x && nat_lt q p) (sym (eq-eqb r s (sym tie))) ∙ second_false (nat_lt r s) _ k in
    grind (arith, nat_tests, e, f)

-- processes that have events have different positions
abbrev AreApart : (Process → List TraceEvent) → Type 0
AreApart traces =
    (p q : Process) (e f : TraceEvent) (es fs : List TraceEvent) → traces p ≡ e ∷ es → traces q ≡ f ∷ fs → place_of p ≡ place_of q → p ≡ q

still_apart : (traces : Process → List TraceEvent) (x : Process) (e : TraceEvent) (more : List TraceEvent) → traces x ≡ e ∷ more
    → AreApart traces → AreApart (at_process x more traces)
still_apart traces x e more front apart p q f g fs gs is it place =
    let a = had p f fs is in
    let b = had q g gs it in
    apart p q a.0 b.0 a.1 b.1 a.2 b.2 place
  where
    had : (p : Process) (f : TraceEvent) (fs : List TraceEvent) → at_process x more traces p ≡ f ∷ fs
        → (g : TraceEvent) × (gs : List TraceEvent) × (traces p ≡ g ∷ gs)
    had p f fs is = elim (test (is_same p x)) [
      | inl t ↦ (e, more, ap traces (same_process p x t) ∙ front)
      | inr n ↦ (f, fs, sym (ap (λ b. cond b more (traces p)) n) ∙ is)
    ]

unique : (traces : Process → List TraceEvent) (xs ys : List Step) → AreApart traces → Merges traces xs (λ p. [])
    → Merges traces ys (λ p. []) → xs ≡ ys
unique traces [] [] apart m n = refl
unique traces [] (y ∷ ys) apart m n =
    let both : ◌≡◌ {A = List TraceEvent} [] (y.event ∷ n.0) = sym (m y.process) ∙ n.1 in
    absurd (cc both)
unique traces (x ∷ xs) [] apart m n =
    let both : ◌≡◌ {A = List TraceEvent} [] (x.event ∷ m.0) = sym (n x.process) ∙ m.1 in
    absurd (cc both)
unique traces (x ∷ xs) (y ∷ ys) apart m n =
    let a = m.2 y.process y.event n.0 n.1 in
    let b = n.2 x.process x.event m.0 m.1 in
    let place = same_place x.event.stamp y.event.stamp (place_of x.process) (place_of y.process) b a in
    let p : x.process ≡ y.process = apart x.process y.process x.event y.event m.0 n.0 m.1 n.1 place in
    let heads : ◌≡◌ {A = List TraceEvent} (x.event ∷ m.0) (y.event ∷ n.0) = sym m.1 ∙ ap traces p ∙ n.1 in
    let e : x.event ≡ y.event = cc heads in
    let more : m.0 ≡ n.0 = cc heads in
    let others : Merges (at_process x.process m.0 traces) ys (λ p. []) =
    subst (λ l. Merges (at_process x.process l traces) ys (λ p. [])) (sym more)
    (subst (λ z. Merges (at_process z n.0 traces) ys (λ p. [])) (sym p) n.3) in
    let rest : xs ≡ ys = unique (at_process x.process m.0 traces) xs ys (still_apart traces x.process x.event m.0 m.1 apart) m.3 others in
    λ i. record { process = p i; event = e i } ∷ rest i

-- the processes of traces are apart
apart_in : (t : Traces) → AreApart (trace_of t)
apart_in t p q e f es fs is it place = elim (placed t p) [
  | inl none ↦
      let both : ◌≡◌ {A = List TraceEvent} [] (e ∷ es) = sym none ∙ is in
      absurd (cc both)
  | inr i ↦ elim (placed t q) [
    | inl none ↦
        let both : ◌≡◌ {A = List TraceEvent} [] (f ∷ fs) = sym none ∙ it in
        absurd (cc both)
    | inr j ↦ sym i.2 ∙ ap (process_at t) (same i.0 j.0 i.1 j.1 (ap place_of i.2 ∙ place ∙ sym (ap place_of j.2))) ∙ j.2
  ]
]
  where
    same : (i j : ℕ) → i < place_count t → j < place_count t → place_of (process_at t i) ≡ place_of (process_at t j) → i ≡ j
    same i j first second is = elim (where_at t i first) [
      | inl x ↦ elim (where_at t j second) [ inl y ↦ omega (arith, x.1, y.1, is) | inr y ↦ omega (arith, x.0, x.1, y.0, y.1, is, t.few_servers) ]
      | inr x ↦ elim (where_at t j second) [ inl y ↦ omega (arith, x.0, x.1, y.0, y.1, is, t.few_servers) | inr y ↦ omega (arith, x.1, y.1, is) ]
    ]

pub merge_is_one : (t : Traces) (xs ys : List Step) → IsMerge t xs → IsMerge t ys → xs ≡ ys
merge_is_one t xs ys m n = unique (trace_of t) xs ys (apart_in t) m n
