use Rattle.std.proofs.Common.{◌∙◌}
use Rattle.zrequests.specs.Requests.{look_in}
use Rattle.zrequests.proofs.Each.{one_more}
use Rattle.zrequests.proofs.lists.looks_of.Goals as goal

pub loop-look-preserved : goal.loop-look-preserved
loop-look-preserved c =
    rw c.in_ok-push.ensures.items
    (c.loop-look.invariant
    ∙ one_more look_in c.args.looks.now c.loop-look.look-index c.look-item.result
    c.in_ok-look_of.field-0 c.loop-look.calls.items c.loop-look-test.true c.look-item.is c.in_ok-look_of.ensures.found)
