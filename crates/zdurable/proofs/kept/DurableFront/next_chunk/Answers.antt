use Rattle.std.proofs.Common.{refl, ap, ◌∙◌}
use Rattle.zfront.specs.Inputs.{ServerView}
use Rattle.zfront_laws.specs.Runs.{Sent}
use Rattle.zdurable.proofs.Serving.{step_serves}
use Rattle.zdurable.proofs.kept.DurableFront.next_chunk.Goals as goal

pub returns-clause-kept : goal.returns-clause-kept
returns-clause-kept g c servers batches t serving =
    let rest = c.next_chunk.ensures.rest in
    step_serves g.D.Device.seen g.D.Device.may_leave servers batches t c.args.self.now _ serving Sent refl refl
    (ap (λ (v : ServerView). v.is_broken) rest ∙ serving.sound)
    (ap (λ (v : ServerView). v.front) rest)

pub returns-clause-sound : goal.returns-clause-sound
returns-clause-sound g c is_open =
    let rest = c.next_chunk.ensures.rest in
    let was = c.requires is_open in (
      was.0,
      was.1,
      was.2,
      step_serves g.D.Device.seen g.D.Device.may_leave was.0 was.1 was.2 c.args.self.now _ was.3 Sent refl refl
          (ap (λ (v : ServerView). v.is_broken) rest ∙ was.3.sound)
          (ap (λ (v : ServerView). v.front) rest),
    )
