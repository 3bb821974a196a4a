use Rattle.std.proofs.Common.{true, refl}
use Rattle.std.proofs.lemmas.Result.{IfOk-weaker}
use Rattle.zworld.specs.Steps.{IsSettledActing}
use Rattle.zworld.specs.support.Settled.{IsSettledBy}
use Rattle.zworld.proofs.world.World.settle_strictly.Goals as goal

pub returns-clause-settled : goal.returns-clause-settled
returns-clause-settled c =
    IfOk-weaker c.settle_by.result (IsSettledBy true c.args.self.now c.settle_by.new.self c.args.limit)
    (IsSettledActing c.args.self.now c.settle_by.new.self c.args.limit)
    (λ settled by. (by.0, by.1 refl, by.2)) c.settle_by.ensures.settled
