use Rattle.std.proofs.Common.{◌++◌, ap, ◌∙◌}
use Rattle.std.specs.List.{flat_map}
use Rattle.zfront.specs.Front.{ended_by}
use Rattle.zfront.proofs.Flat.{flat_more, flat_end}
use Rattle.zfront.proofs.inner.Inner.ending.Goals as goal

pub loop-call-preserved : goal.loop-call-preserved
loop-call-preserved g c =
    flat_more (ended_by c.args.self.now.tree) c.args.calls.now c.loop-call.call-index c.call-item.result c.loop-call.ids.items
    (flat_map (ended_by c.args.self.now.tree) c.args.calls.now) c.add_ids.new.ids.items c.loop-call-test.true c.call-item.is
    (c.in_ok-add_ids.ensures ∙ ap (λ more. c.loop-call.ids.items ++ more) c.in_ok-more.ensures) c.loop-call.invariant

pub returns : goal.returns
returns g c =
    flat_end (ended_by c.args.self.now.tree) c.args.calls.now c.loop-call.call-index c.loop-call.ids.items
    (flat_map (ended_by c.args.self.now.tree) c.args.calls.now) c.loop-call-test.false c.loop-call.invariant
