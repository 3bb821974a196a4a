use Rattle.std.proofs.Common.{refl}
use Rattle.zconnections.specs.buffers.Inputs.{input_of}
use Rattle.zfront_laws.specs.Runs.{Takes}
use Rattle.zdurable.proofs.Serving.{step_serves}
use Rattle.zdurable.proofs.kept.DurableFront.take.Goals as goal

pub returns-clause-kept : goal.returns-clause-kept
returns-clause-kept g c servers batches t serving =
    step_serves g.D.Device.seen g.D.Device.may_leave servers batches t c.args.self.now _ serving (Takes (input_of c.args.input))
    refl refl c.in_ok-take.ensures.sound.1 c.in_ok-take.ensures.does

pub returns-clause-sound : goal.returns-clause-sound
returns-clause-sound g c is_open =
    let was = c.requires c.if-not-self.false in (
      was.0,
      was.1,
      was.2,
      step_serves g.D.Device.seen g.D.Device.may_leave was.0 was.1 was.2 c.args.self.now _ was.3 (Takes (input_of c.args.input))
          refl refl c.in_ok-take.ensures.sound.1 c.in_ok-take.ensures.does,
    )
