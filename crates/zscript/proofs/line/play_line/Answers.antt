use Rattle.std.proofs.Common.{Ok, ap, ◌∙◌}
use Rattle.std.proofs.lemmas.Result.{on_ok_weaker}
use Rattle.zprotocol.specs.declared.world.event.Event.TheVariants.{Take, Ignore, Fail, Retry}
use Rattle.zscript.proofs.Effects.{plain_done, order_done}
use Rattle.zscript.proofs.LineDone.{read_done, fault_done}
use Rattle.zscript.proofs.line.play_line.Goals as goal

pub returns-in-Err : goal.returns-in-Err
returns-in-Err c = on_ok_weaker c.write_fault.result (fault_done c.args.strict _ c.args.line.now c.in-Err.fault _
    c.requires c.in-Err.ensures.fault) c.write_fault.ensures

pub returns-in-Call : goal.returns-in-Call
returns-in-Call c = on_ok_weaker c.call.result (read_done c.args.strict _ _ c.args.line.now _ _ (c.in-Ok.ensures.found ∙ ap Ok c.in-Call.is))
    c.call.ensures

pub returns-in-Begin : goal.returns-in-Begin
returns-in-Begin c = on_ok_weaker c.begin.result (read_done c.args.strict _ _ c.args.line.now _ _ (c.in-Ok.ensures.found ∙ ap Ok c.in-Begin.is))
    c.begin.ensures

pub returns-in-Settle : goal.returns-in-Settle
returns-in-Settle c = on_ok_weaker c.settle.result (read_done c.args.strict _ _ c.args.line.now _ _ (c.in-Ok.ensures.found
    ∙ ap Ok c.in-Settle.is)) c.settle.ensures

pub returns-in-Take : goal.returns-in-Take
returns-in-Take c =
    on_ok_weaker c.do_event.result
    (λ done. read_done c.args.strict _ _ c.args.line.now _ _ (c.in-Ok.ensures.found ∙ ap Ok c.in-Take.is)
    (plain_done c.args.strict _ _ (Take c.in-Take.from c.in-Take.to) _ (λ why is. is) done))
    c.do_event.ensures

pub returns-in-Ignore : goal.returns-in-Ignore
returns-in-Ignore c =
    on_ok_weaker c.do_event-in-Ignore.result
    (λ done. read_done c.args.strict _ _ c.args.line.now _ _ (c.in-Ok.ensures.found ∙ ap Ok c.in-Ignore.is)
    (plain_done c.args.strict _ _ (Ignore c.in-Ignore.from c.in-Ignore.to) _ (λ why is. is) done))
    c.do_event-in-Ignore.ensures

pub returns-in-Fail : goal.returns-in-Fail
returns-in-Fail c =
    on_ok_weaker c.do_event-in-Fail.result
    (λ done. read_done c.args.strict _ _ c.args.line.now _ _ (c.in-Ok.ensures.found ∙ ap Ok c.in-Fail.is)
    (plain_done c.args.strict _ _ (Fail c.in-Fail.server) _ (λ why is. is) done))
    c.do_event-in-Fail.ensures

pub returns-in-Order : goal.returns-in-Order
returns-in-Order c =
    on_ok_weaker c.do_event-in-Order.result
    (λ done. read_done c.args.strict _ _ c.args.line.now _ _ (c.in-Ok.ensures.found ∙ ap Ok c.in-Order.is)
    (order_done c.args.strict _ _ c.in-Order.order _ done))
    c.do_event-in-Order.ensures

pub returns-in-Retry : goal.returns-in-Retry
returns-in-Retry c =
    on_ok_weaker c.do_event-in-Retry.result
    (λ done. read_done c.args.strict _ _ c.args.line.now _ _ (c.in-Ok.ensures.found ∙ ap Ok c.in-Retry.is)
    (plain_done c.args.strict _ _ (Retry c.in-Retry.client) _ (λ why is. is) done))
    c.do_event-in-Retry.ensures
