use Rattle.std.proofs.Common.{◌≡◌, ap}
use Rattle.std.proofs.lemmas.Result.{IfOk-weaker}
use Rattle.ztree.specs.declared.limits.TheConstants.{MAX_CLIENTS}
use Rattle.zprotocol.specs.server.Machine.{cached_tree}
use Rattle.zprotocol.specs.world.World.{opening_world}
use Rattle.zworld.specs.Steps.{WorldView, world_in}
use Rattle.zscript.specs.Line.{forgotten}
use Rattle.zscript.specs.Done.{world_between}
use Rattle.zscript.specs.Script.{opening_of}
use Rattle.zscript.proofs.line.script_world.Goals as goal

pub returns : goal.returns
returns c =
    IfOk-weaker c.new.result (λ (w : WorldView). world_in w ≡ opening_world cached_tree c.args.last MAX_CLIENTS)
    (λ (w : WorldView). world_between w.held ≡ opening_of c.args.last)
    (λ w is. ap forgotten is) c.new.ensures.world
