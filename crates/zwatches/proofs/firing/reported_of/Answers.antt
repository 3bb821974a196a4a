use Rattle.zwatches.proofs.Reporting.{reported_lists}
use Rattle.zwatches.proofs.firing.reported_of.Goals as goal

pub returns : goal.returns
returns c =
    reported_lists c.args.watches.now c.args.event c.args.names.now c.new-reported.result.items c.tell.new.reported.items c.make_rising.new.numbers.items
    c.new-reported.ensures.items c.in_ok-tell.ensures c.make_rising.ensures
