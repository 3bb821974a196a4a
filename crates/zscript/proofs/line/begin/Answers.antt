use Rattle.std.proofs.lemmas.Result.{on_ok_weaker}
use Rattle.zscript.proofs.CallEffects.{begin_done}
use Rattle.zscript.proofs.line.begin.Goals as goal

pub returns : goal.returns
returns c =
    on_ok_weaker c.write_begun.result
    (begin_done c.args.strict c.args.world.now c.step.new.self c.args.request c.in_ok-did.did _ c.in_ok-did.ensures.happened
    c.in_ok-did.ensures.cause c.requires)
    c.write_begun.ensures
