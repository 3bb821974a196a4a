use Rattle.std.proofs.Common.{sym, subst, ◌≡◌, true}
use Rattle.std.specs.Prelude.{IfOk, OnErr}
use Rattle.std.proofs.lemmas.Result.{IfOk-weaker}
use Rattle.zworld.specs.declared.did.Did.TheVariants.{Idle}
use Rattle.zworld.specs.declared.did.IdleCause.{IdleCause}
use Rattle.zworld.specs.Held.{world_of}
use Rattle.zworld.specs.Did.{IsCause, is_idle}
use Rattle.zworld.specs.Steps.{WorldView, IsExplainedFromStart, HasHappened, can_want_memory, world_in}
use Rattle.zworld.specs.support.Stepped.{GoesBy}
use Rattle.zworld.specs.support.Past.{HasPast}
use Rattle.zworld.proofs.Going.{past_after_step, past_is_explained, happened, same_world, needed_anyway}
use Rattle.zworld.proofs.world.World.step.Goals as goal

pub invariant_of-self : goal.invariant_of-self
invariant_of-self c =
    let old = c.self.inside in
    let had = subst (λ b. HasPast old.is_restored old.has_forgotten b old.processes old.history.items) c.if-self.false c.self.invariant in
    subst (λ b. HasPast old.is_restored old.has_forgotten b c.step-did.new.self c.step-did.new.seen.items) (sym c.is_err-self-inside.ensures.value)
    (past_after_step c.step-did.result old.is_restored old.has_forgotten old.processes c.step-did.new.self old.history.items
    c.step-did.new.seen.items c.args.event had
    c.step-did.ensures.goes c.step-did.ensures.stays)

pub returns-clause-happened : goal.returns-clause-happened
returns-clause-happened c =
    let old = c.self.inside in
    let new = c.step-did.new.self in
    let later = c.step-did.new.seen.items in
    let event = c.args.event in
    subst (λ (v : WorldView). IfOk c.step-did.result (λ did. HasHappened (world_in v) event did (world_of new later))) c.self.view_is
    (IfOk-weaker c.step-did.result (GoesBy old.processes new event old.history.items later)
    (λ did. HasHappened (world_of old.processes old.history.items) event did (world_of new later))
    (λ did goes. happened old.processes new old.history.items later event did goes) c.step-did.ensures.goes)

pub returns-clause-cause : goal.returns-clause-cause
returns-clause-cause c =
    let old = c.self.inside in
    let event = c.args.event in
    subst (λ (v : WorldView). IfOk c.step-did.result (λ did. (why : IdleCause) → did ≡ Idle why → IsCause v.held event why)) c.self.view_is
    (IfOk-weaker c.step-did.result (GoesBy old.processes c.step-did.new.self event old.history.items c.step-did.new.seen.items)
    (λ did. (why : IdleCause) → did ≡ Idle why → IsCause old.processes event why)
    (λ did goes. goes.2.caused) c.step-did.ensures.goes)

pub returns-clause-same : goal.returns-clause-same
returns-clause-same c =
    let old = c.self.inside in
    let broken = c.is_err-self-inside.result in
    let new : WorldView = record {
      held = c.step-did.new.self;
      history = c.step-did.new.seen.items;
      has_forgotten =
          old.has_forgotten;
      is_restored = old.is_restored;
      is_broken = broken;
    } in
    let from : (v : WorldView) → Type 0 = λ v. IfOk c.step-did.result (λ did. is_idle did ≡ true → new ≡ v) in
    subst from c.self.view_is
    (subst (λ b. from (record {
      held = old.processes;
      history = old.history.items;
      has_forgotten = old.has_forgotten;
      is_restored = old.is_restored;
      is_broken = b;
    })) (sym c.if-self.false)
    (same_world c.step-did.result old.processes c.step-did.new.self old.history.items c.step-did.new.seen.items c.args.event
    old.is_restored old.has_forgotten broken
    c.is_err-self-inside.ensures.value c.step-did.ensures.goes))

pub returns-then-self-clause-explained : goal.returns-then-self-clause-explained
returns-then-self-clause-explained c = subst IsExplainedFromStart c.self.view_is (past_is_explained _ c.self.invariant)

pub returns-clause-explained : goal.returns-clause-explained
returns-clause-explained c =
    let old = c.self.inside in
    let had = subst (λ b. HasPast old.is_restored old.has_forgotten b old.processes old.history.items) c.if-self.false c.self.invariant in
    past_is_explained
    (record {
      held = c.step-did.new.self;
      history = c.step-did.new.seen.items;
      has_forgotten = old.has_forgotten;
      is_restored = old.is_restored;
      is_broken = c.is_err-self-inside.result;
    })
    (subst (λ b. HasPast old.is_restored old.has_forgotten b c.step-did.new.self c.step-did.new.seen.items) (sym c.is_err-self-inside.ensures.value)
    (past_after_step c.step-did.result old.is_restored old.has_forgotten old.processes c.step-did.new.self old.history.items
    c.step-did.new.seen.items c.args.event had
    c.step-did.ensures.goes c.step-did.ensures.stays))

pub returns-clause-needed : goal.returns-clause-needed
returns-clause-needed c = λ whole.
    let old = c.self.inside in
    subst (λ (v : WorldView). OnErr c.step-did.result (can_want_memory (world_in v) c.args.event ≡ true)) c.self.view_is
    (needed_anyway c.step-did.result old.processes old.history.items c.args.event c.step-did.ensures.needed)
