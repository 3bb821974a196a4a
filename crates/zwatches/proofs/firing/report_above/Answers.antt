use Rattle.std.proofs.lemmas.Result.{on_ok_weaker}
use Rattle.std.proofs.Common.{◌||◌}
use Rattle.zwatches.specs.Events.{above}
use Rattle.zwatches.specs.support.Groups.{among, waits_at}
use Rattle.zwatches.proofs.Above.{waits_more, waits_last}
use Rattle.zwatches.proofs.firing.report_above.Goals as goal

pub loop-depth-preserved : goal.loop-depth-preserved
loop-depth-preserved c = λ q.
    waits_more c.args.watches.now c.args.names.now c.loop-depth.depth c.loop-depth-test.true q (among c.loop-depth.reported.items q) (among c.report_at.new.reported.items q)
    (among c.args.reported.now.items q || waits_at c.args.watches.now (above c.args.names.now) q) (c.in_ok-report_at.ensures q) (c.loop-depth.invariant q)

pub returns : goal.returns
returns c =
    on_ok_weaker c.report_at-2.result
    (λ is q. waits_last c.args.watches.now c.args.names.now c.loop-depth.depth c.loop-depth-test.false c.loop-depth.auto.depth-end q
    (among c.loop-depth.reported.items q) (among c.report_at-2.new.reported.items q)
    (among c.args.reported.now.items q || waits_at c.args.watches.now (above c.args.names.now) q) (is q) (c.loop-depth.invariant q))
    c.report_at-2.ensures
