use Rattle.std.proofs.Common.{subst, sym, ap, ◌∙◌, [], ◌∷◌, ◌++◌, ◌≡◌, append_assoc, false, refl}
use Rattle.std.proofs.lemmas.List.{append-nil, nil_from_length}
use Rattle.zworld.specs.Steps.{WorldView, IsExplainedFromStart, HasRun, world_in}
use Rattle.zworld.proofs.Going.{past_is_explained, lead_more, has_run, has_begun_to_run}
use Rattle.zworld.proofs.Needs.{has_run_out}
use Rattle.zworld.proofs.Results.{on_err}
use Rattle.zworld.proofs.world.World.run.Goals as goal

pub returns-then-self-clause-explained : goal.returns-then-self-clause-explained
returns-then-self-clause-explained c =
    subst IsExplainedFromStart c.self.view_is (past_is_explained _ c.self.invariant)

pub loop-event-init : goal.loop-event-init
loop-event-init c = (
  [],
  sym c.into_iter-event-iterator.ensures.into_iter_gives.0,
  refl,
  subst (λ (v : WorldView). v.is_broken ≡ false) c.self.view_is c.if-self.false,
  subst IsExplainedFromStart c.self.view_is (past_is_explained _ c.self.invariant),
  refl,
  refl,
)

pub loop-event-preserved : goal.loop-event-preserved
loop-event-preserved c =
    let here = c.loop-event.invariant in
    let event = c.in-Some.event in
    let rest = c.next.new.self.rest.items in (
      here.0 ++ event ∷ [],
      here.1 ∙ ap (λ xs. here.0 ++ xs) c.in-Some.ensures.steps.0 ∙ sym (append_assoc here.0 (event ∷ []) rest),
      lead_more (world_in c.args.self.now) (world_in c.loop-event.self) (world_in c.step.new.self) here.0 event
          c.in_ok-step.field-0 here.2 c.in_ok-step.ensures.happened,
      c.in_ok-step.ensures.sound.1,
      c.step.ensures.explained,
      c.step.ensures.past ∙ here.5,
      c.step.ensures.start ∙ here.6,
    )

pub returns-in_err-step-clause-explained : goal.returns-in_err-step-clause-explained
returns-in_err-step-clause-explained c = c.step.ensures.explained

pub returns-in_err-step-clause-kept : goal.returns-in_err-step-clause-kept
returns-in_err-step-clause-kept c =
    let here = c.loop-event.invariant in
    on_err c.from_residual.result
    (has_begun_to_run (world_in c.args.self.now) (world_in c.loop-event.self) c.args.events.items here.0
    c.loop-event.event-iterator.rest.items c.step.new.self.history
    here.2 here.1 c.in_err-step.ensures.history)

pub returns-in_err-step-clause-needed : goal.returns-in_err-step-clause-needed
returns-in_err-step-clause-needed c = λ whole.
    let here = c.loop-event.invariant in
    let cut = here.1 ∙ ap (λ xs. here.0 ++ xs) c.in-Some.ensures.steps.0 in
    on_err c.from_residual.result
    (has_run_out (world_in c.args.self.now) (world_in c.loop-event.self) c.args.events.items here.0 c.next.new.self.rest.items
    c.in-Some.event c.step.new.self.history
    here.2 cut c.in_err-step.ensures.history (c.in_err-step.ensures.needed here.3))

pub returns-clause-explained : goal.returns-clause-explained
returns-clause-explained c = c.loop-event.invariant.4

pub returns-clause-ran : goal.returns-clause-ran
returns-clause-ran c =
    let here = c.loop-event.invariant in
    let rest = c.loop-event.event-iterator.rest in
    let ended : rest.items ≡ [] = nil_from_length rest.items (sym rest.ok.0 ∙ c.in-None.ensures.steps.0) in
    let all : c.args.events.items ≡ here.0 = here.1 ∙ ap (λ xs. here.0 ++ xs) ended ∙ append-nil here.0 in
    subst (λ es. HasRun (world_in c.args.self.now) es (world_in c.loop-event.self)) (sym all)
    (has_run (world_in c.args.self.now) (world_in c.loop-event.self) here.0 here.2)
