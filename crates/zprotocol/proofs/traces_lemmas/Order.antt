-- Along the merge of traces stamps never fall.
use Rattle.std.proofs.Common.{◌≡◌, ◌≤◌, ℕ, Bool, true, false, cond, ◌==◌, nat_lt, List, [], ◌∷◌, refl, sym, ap, ◌∙◌, inl, inr, arith}
use Rattle.std.specs.Prelude.{◌&&◌, ◌||◌}
use Rattle.std.proofs.lemmas.Bool.Decides.{nat_tests}
use Rattle.zcalls.proofs.Among.{test}
use Rattle.zprotocol.specs.declared.process.Process.{Process}
use Rattle.zprotocol.specs.Places.{place_of}
use Rattle.zprotocol.specs.world.Links.{is_same}
use Rattle.zprotocol.specs.declared.traces.trace.TraceEvent.{TraceEvent}
use Rattle.zprotocol.specs.declared.traces.trace.Traces.{Traces}
use Rattle.zprotocol.specs.traces.Laws.{NeverFallFrom}
use Rattle.zprotocol.specs.traces.Traces.{Step, trace_of, at_process, Merges, BeginsMerge, stamps_rise, stamps_rise_from}

both : (a b : Bool) → (a && b) ≡ true → (a ≡ true) × (b ≡ true)
both true b is = (refl, is)
both false b is = absurd (cc is)

first_false : (a b : Bool) → (a || b) ≡ false → a ≡ false
first_false true b is = absurd (cc is)
first_false false b is = refl

not_less : (a b : ℕ) → nat_lt a b ≡ false → b ≤ a
not_less a b is = grind (arith, nat_tests, is)

less : (a b : ℕ) → nat_lt a b ≡ true → a ≤ b
less a b is = grind (arith, nat_tests, is)

-- the stamps of each trace rise, and none begins with one below this
abbrev RiseFrom : ℕ → (Process → List TraceEvent) → Type 0
RiseFrom last traces =
    (p : Process) (e : TraceEvent) (more : List TraceEvent) → traces p ≡ e ∷ more → (last ≤ e.stamp) × (stamps_rise_from e.stamp more ≡ true)

still_rise : (traces : Process → List TraceEvent) (last : ℕ) (step : Step) (more : List TraceEvent) → traces step.process ≡ step.event ∷ more
    → ((q : Process) (e : TraceEvent) (others : List TraceEvent) → traces q ≡ e ∷ others
    → (nat_lt e.stamp step.event.stamp || (e.stamp == step.event.stamp && nat_lt (place_of q) (place_of step.process))) ≡ false)
    → RiseFrom last traces → RiseFrom step.event.stamp (at_process step.process more traces)
still_rise traces last step more front least rise q e others is = elim (test (is_same q step.process)) [
  | inl own ↦
      let next : more ≡ e ∷ others = sym (ap (λ b. cond b more (traces q)) own) ∙ is in
      let rises = both (nat_lt step.event.stamp e.stamp) (stamps_rise_from e.stamp others)
      (ap (λ l. stamps_rise_from step.event.stamp l) (sym next) ∙ (rise step.process step.event more front).1) in
      (less step.event.stamp e.stamp rises.0, rises.1)
  | inr other ↦
      let at : traces q ≡ e ∷ others = sym (ap (λ b. cond b more (traces q)) other) ∙ is in
      (not_less e.stamp step.event.stamp (first_false _ _ (least q e others at)), (rise q e others at).1)
]

never_fall : (steps : List Step) (traces left : Process → List TraceEvent) (last : ℕ) → RiseFrom last traces
    → Merges traces steps left → NeverFallFrom last steps
never_fall [] traces left last rise merge = tt
never_fall (step ∷ steps) traces left last rise merge = (
  (rise step.process step.event merge.0 merge.1).0,
  never_fall steps (at_process step.process merge.0 traces) left step.event.stamp (still_rise traces last step merge.0 merge.1 merge.2 rise) merge.3,
)

pub goes_by_stamps : (t : Traces) (steps : List Step) → ((p : Process) → stamps_rise (trace_of t p) ≡ true)
    → BeginsMerge t steps → NeverFallFrom 0 steps
goes_by_stamps t steps rise begins =
    never_fall steps (trace_of t) begins.0 0
    (λ p e more is. (omega arith, ap stamps_rise (sym is) ∙ rise p)) begins.1
