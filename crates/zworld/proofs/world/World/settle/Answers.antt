use Rattle.std.proofs.Common.{false}
use Rattle.std.proofs.lemmas.Result.{IfOk-weaker}
use Rattle.zworld.specs.Steps.{IsSettled}
use Rattle.zworld.specs.support.Settled.{IsSettledBy}
use Rattle.zworld.proofs.world.World.settle.Goals as goal

pub returns-clause-settled : goal.returns-clause-settled
returns-clause-settled c =
    IfOk-weaker c.settle_by.result (IsSettledBy false c.args.self.now c.settle_by.new.self c.args.limit)
    (IsSettled c.args.self.now c.settle_by.new.self c.args.limit)
    (λ settled by. (by.0, by.2)) c.settle_by.ensures.settled
