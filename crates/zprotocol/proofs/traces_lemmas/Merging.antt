-- One step more of a merge, and of a run.
use Rattle.std.proofs.Common.{◌≡◌, Bool, true, false, cond, List, [], ◌∷◌, ◌++◌, Option, Some, None, refl, sym, ap, ◌∙◌}
use Rattle.std.specs.Prelude.{◌&&◌}
use Rattle.zprotocol.specs.declared.process.Process.{Process}
use Rattle.zprotocol.specs.server.Machine.{Does}
use Rattle.zprotocol.specs.declared.world.event.Event.{Event}
use Rattle.zprotocol.specs.world.Links.{is_same}
use Rattle.zprotocol.specs.world.World.{World}
use Rattle.zprotocol.specs.world.Events.{happens, run}
use Rattle.zprotocol.specs.declared.traces.trace.TraceEvent.{TraceEvent}
use Rattle.zprotocol.specs.traces.Traces.{event_of, Step, comes_before, at_process, Merges, is_step_in_place, step_happens}
use Rattle.zprotocol.specs.traces.Traces.{are_in_place, event_list, events_of}

-- what is left may be said otherwise
pub merges_left : (traces : Process → List TraceEvent) (steps : List Step) (left other : Process → List TraceEvent)
    → Merges traces steps left → ((p : Process) → left p ≡ other p) → Merges traces steps other
merges_left traces [] left other merge same = λ p. merge p ∙ same p
merges_left traces (step ∷ steps) left other merge same = (
  merge.0,
  merge.1,
  merge.2,
  merges_left (at_process step.process merge.0 traces)
      steps left other merge.3 same,
)

-- traces may be said otherwise
merges_of : (traces others : Process → List TraceEvent) (steps : List Step) (left : Process → List TraceEvent)
    → Merges traces steps left → ((p : Process) → others p ≡ traces p) → Merges others steps left
merges_of traces others [] left merge same = λ p. same p ∙ merge p
merges_of traces others (step ∷ steps) left merge same = (
  merge.0,
  same step.process ∙ merge.1,
  λ q e more is. merge.2 q e more (sym (same q) ∙ is),
  merges_of (at_process step.process merge.0 traces) (at_process step.process merge.0 others) steps left merge.3
      (λ q. ap (λ l. cond (is_same q step.process) merge.0 l) (same q)),
)

-- the first of what is left is the next step
pub merges_more : (traces : Process → List TraceEvent) (steps : List Step) (left after : Process
    → List TraceEvent) (p : Process) (e : TraceEvent) (more : List TraceEvent)
    → Merges traces steps left → left p ≡ e ∷ more
    → ((q : Process) (e' : TraceEvent) (others : List TraceEvent) → left q ≡ e' ∷ others
    → comes_before (record { process = q; event = e' }) (record { process = p; event = e }) ≡ false)
    → ((q : Process) → at_process p more left q ≡ after q)
    → Merges traces (steps ++ record { process = p; event = e } ∷ []) after
merges_more traces [] left after p e more merge front least then = (
  more,
  merge p ∙ front,
  λ q e' others is. least q e' others (sym (merge q) ∙ is),
  λ q. ap (λ l. cond (is_same q p) more l) (merge q) ∙ then q,
)
merges_more traces (step ∷ steps) left after p e more merge front least then =
    (merge.0, merge.1, merge.2, merges_more (at_process step.process merge.0 traces) steps left after p e more merge.3 front least then)

module _ {M : Type 0} (machine : Does M) where
  -- the events of one step more
  run_more : (w : World M) (steps : List Step) (s : Step)
      → run machine w (events_of (steps ++ s ∷ [])) ≡ step_happens machine (run machine w (events_of steps)) (event_of s.process s.event.act)
  run_more w [] s = one (event_of s.process s.event.act)
    where
      one : (e : Option Event) → run machine w (event_list e ++ []) ≡ step_happens machine w e
      one None = refl
      one (Some e) = refl
  run_more w (step ∷ steps) s = first (event_of step.process step.event.act) (λ v. run_more v steps s)
    where
      first : (e : Option Event)
          → ((v : World M) → run machine v (events_of (steps ++ s ∷ [])) ≡ step_happens machine (run machine v (events_of steps))
          (event_of s.process s.event.act))
          → run machine w (event_list e ++ events_of (steps ++ s ∷ []))
          ≡ step_happens machine (run machine w (event_list e ++ events_of steps)) (event_of s.process s.event.act)
      first None more = more w
      first (Some e) more = more (happens machine w e)

  -- a run of one event and more
  run_first : (w : World M) (e : Option Event) (events : List Event) → run machine w (event_list e ++ events)
      ≡ run machine (step_happens machine w e) events
  run_first w None events = refl
  run_first w (Some e) events = refl

  -- steps at their positions, and one more
  places_more : (w : World M) (steps : List Step) (s : Step) → are_in_place machine w steps ≡ true
      → are_in_place machine w (steps ++ s ∷ []) ≡ is_step_in_place (run machine w (events_of steps)) (event_of s.process s.event.act)
  places_more w [] s all = and_true (is_step_in_place w (event_of s.process s.event.act))
    where
      and_true : (b : Bool) → (b && true) ≡ b
      and_true true = refl
      and_true false = refl
  places_more w (step ∷ steps) s all =
      let e : Option Event = event_of step.process step.event.act in
      let v : World M = step_happens machine w e in
      let first = both_are (is_step_in_place w e) (are_in_place machine v steps) all in
      ap (λ b. b && are_in_place machine v (steps ++ s ∷ [])) first.0
      ∙ places_more v steps s first.1
      ∙ ap (λ u. is_step_in_place u (event_of s.process s.event.act)) (sym (run_first w e (events_of steps)))
    where
      both_are : (a b : Bool) → (a && b) ≡ true → (a ≡ true) × (b ≡ true)
      both_are true b h = (refl, h)
      both_are false b h = absurd (cc h)

-- one step more, replayed on the world that the others led to
module _ {M : Type 0} (machine : Does M) (opening : World M) (steps : List Step) (s : Step) (w : World M)
    (all : are_in_place machine opening steps ≡ true) (here : run machine opening (events_of steps) ≡ w) where
  pub replayed_place : are_in_place machine opening (steps ++ s ∷ []) ≡ is_step_in_place w (event_of s.process s.event.act)
  replayed_place = places_more machine opening steps s all ∙ ap (λ v. is_step_in_place v (event_of s.process s.event.act)) here

  pub replayed_world : (after : World M) → step_happens machine w (event_of s.process s.event.act) ≡ after
      → run machine opening (events_of (steps ++ s ∷ [])) ≡ after
  replayed_world after leads = run_more machine opening steps s ∙ ap (λ v. step_happens machine v (event_of s.process s.event.act)) here ∙ leads
