use Rattle.std.proofs.Common.{◌∙◌, arith}
use Rattle.std.proofs.lemmas.List.Elements.{filter_more}
use Rattle.std.proofs.lemmas.Grind.{common_steps}
use Rattle.zserver.proofs.Sending.{above_skips, above_some, on_err}
use Rattle.zserver.proofs.sent.copies_above.Goals as goal

pub loop-e-preserved : goal.loop-e-preserved
loop-e-preserved c = grind (arith, common_steps, filter_more)

pub loop-e-preserved-then-number : goal.loop-e-preserved-then-number
loop-e-preserved-then-number c =
    c.loop-e.invariant ∙ above_skips c.args.n c.args.sent.now c.loop-e.e-index c.e-item.result c.loop-e-test.true c.e-item.is (omega arith)

pub returns-in_err-clone-clause-some : goal.returns-in_err-clone-clause-some
returns-in_err-clone-clause-some c =
    on_err c.from_residual.result
    (above_some c.args.n c.args.sent.now c.loop-e.e-index c.e-item.result c.loop-e-test.true c.e-item.is (omega (arith, c.if-number.false, c.number.ensures.same, c.number-in-loop-e.ensures.same)))

pub returns-in_err-push_back-clause-some : goal.returns-in_err-push_back-clause-some
returns-in_err-push_back-clause-some c =
    on_err c.from_residual-in_err-push_back.result
    (above_some c.args.n c.args.sent.now c.loop-e.e-index c.e-item.result c.loop-e-test.true c.e-item.is (omega (arith, c.if-number.false, c.number.ensures.same, c.number-in-loop-e.ensures.same)))
