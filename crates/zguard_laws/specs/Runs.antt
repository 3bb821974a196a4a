-- Steps of a front end behind a guard, in order.
use Rattle.std.specs.Prelude.{◌≡◌, ℕ, Bool, List, [], ◌∷◌}
use Rattle.std.specs.Option.{option_map_or}
use Rattle.ztree.specs.Tree.{Tree}
use Rattle.zresponses.specs.declared.clock.Clock.{Clock}
use Rattle.zwatches.specs.declared.limits.WatchLimits.{WatchLimits}
use Rattle.zconnections.specs.buffers.Outbox.{first_of}
use Rattle.zfront.specs.Front.{FrontView}
use Rattle.zfront.specs.Restoring.{beginning}
use Rattle.zfront_laws.specs.Runs.{Step, Takes, Sent, Took, Does}
use Rattle.zguard.specs.Guarding.{GuardView, guard_of}
use Rattle.zguard_laws.specs.Inputs.{passed, after, after_chunk}

-- a guard, and the front behind it
pub record GuardedView : Type 0 where
  pub guard : GuardView
  pub front : FrontView

-- with these logins, and a front that begins with this tree and these limits of watches
abbrev pub guarded_beginning : List (List ℕ) → WatchLimits → Tree → List ℕ → Clock → Bool → GuardedView
guarded_beginning logins limits t secret times is_kept =
    record { guard = guard_of logins; front = beginning limits t secret times is_kept }

-- the step of the front: it gets what passes
abbrev pub passed_step : GuardView → Step → Step
passed_step g (Takes input) = Takes (passed g input)
passed_step g Sent = Sent
passed_step g Took = Took

-- the guard after a step
abbrev pub after_step : Step → GuardedView → GuardView
after_step (Takes input) old = after old.guard input
after_step Sent old = option_map_or (λ chunk. after_chunk old.guard chunk) (first_of old.front.tables.unsent) old.guard
after_step Took old = old.guard

-- the effect of a step, and of steps in order
abbrev pub GuardedDoes : Step → GuardedView → GuardedView → Type 0
GuardedDoes step old new = Does (passed_step old.guard step) old.front new.front × (new.guard ≡ after_step step old)

abbrev pub GuardedRuns : List Step → GuardedView → GuardedView → Type 0
GuardedRuns [] old new = new ≡ old
GuardedRuns (step ∷ steps) old new = (middle : GuardedView) × GuardedDoes step old middle × GuardedRuns steps middle new

-- the steps of the front in such a run: it gets what passes
abbrev pub passed_steps : (steps : List Step) (old new : GuardedView) → GuardedRuns steps old new → List Step
passed_steps [] old new is = []
passed_steps (step ∷ steps) old new has = passed_step old.guard step ∷ passed_steps steps has.0 new has.2
