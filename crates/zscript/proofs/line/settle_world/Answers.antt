use Rattle.std.proofs.Common.{true≢false, sym, ◌∙◌}
use Rattle.std.proofs.lemmas.Result.{IfOk-weaker}
use Rattle.zscript.specs.declared.limits.TheConstants.{MAX_EVENTS}
use Rattle.zworld.specs.Steps.{IsSettled, IsSettledActing}
use Rattle.zworld.specs.support.Settled.{IsSettledBy}
use Rattle.zscript.proofs.line.settle_world.Goals as goal

pub returns-then-strict : goal.returns-then-strict
returns-then-strict c =
    IfOk-weaker c.settle_strictly.result (IsSettledActing c.args.world.now c.settle_strictly.new.self MAX_EVENTS)
    (IsSettledBy c.args.strict c.args.world.now c.settle_strictly.new.self MAX_EVENTS)
    (λ settled done. (done.0, λ strictly. done.1, done.2)) c.settle_strictly.ensures.settled

pub returns-else-strict : goal.returns-else-strict
returns-else-strict c =
    IfOk-weaker c.settle.result (IsSettled c.args.world.now c.settle.new.self MAX_EVENTS) (IsSettledBy c.args.strict
    c.args.world.now c.settle.new.self MAX_EVENTS)
    (λ settled done. (done.0, λ strictly. absurd (true≢false (sym strictly ∙ c.if-strict.false)), done.1)) c.settle.ensures.settled
