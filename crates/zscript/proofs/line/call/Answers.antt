use Rattle.std.proofs.Common.{subst}
use Rattle.std.proofs.lemmas.Result.{on_ok_weaker}
use Rattle.zscript_text.specs.Texts.{Writes}
use Rattle.zprotocol.specs.declared.world.event.Event.TheVariants.{Begin}
use Rattle.zworld.specs.Steps.{HasHappened, world_in}
use Rattle.zscript.specs.support.Effects.{called_text}
use Rattle.zscript.proofs.CallEffects.{active_by, call_done, call_not_begun}
use Rattle.zscript.proofs.line.call.Goals as goal

pub returns : goal.returns
returns c =
    on_ok_weaker c.write_called.result
    (λ written. call_done (world_in c.args.world.now) (world_in c.step.new.self) c.args.request.client c.args.request.call
    c.in_ok-cause.field-0 c.in_ok-cause.ensures.happened
    (active_by c.in_ok-cause.field-0 c.in_default.not-Idle) c.args.strict (world_in c.settle_world.new.world)
    c.in_ok-settle_world.field-0 c.in_ok-settle_world.ensures c.requires _
    (subst (λ h. Writes c.args.out.now c.write_called.new.out (called_text h)) c.history.ensures.history written))
    c.write_called.ensures

pub returns-in-Idle : goal.returns-in-Idle
returns-in-Idle c =
    let request = c.args.request in
    let has = subst (λ did. HasHappened (world_in c.args.world.now) (Begin request.client request.call) did (world_in c.step.new.self))
    c.in-Idle.is c.in_ok-cause.ensures.happened in
    on_ok_weaker c.write_cause.result
    (call_not_begun c.args.strict c.args.world.now c.step.new.self request c.in-Idle.cause has
    (c.in_ok-cause.ensures.cause c.in-Idle.cause c.in-Idle.is) c.requires _)
    c.write_cause.ensures
