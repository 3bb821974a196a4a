use Rattle.std.proofs.Common.{◌++◌, ap, ◌∙◌}
use Rattle.std.specs.List.{flat_map}
use Rattle.zfront.specs.Front.{stale_by}
use Rattle.zfront.proofs.Flat.{flat_more, flat_end}
use Rattle.zfront.proofs.inner.Inner.add_stale.Goals as goal

pub loop-call-preserved : goal.loop-call-preserved
loop-call-preserved g c =
    flat_more (stale_by c.args.self.now.tree) c.args.calls.now c.loop-call.call-index c.call-item.result c.loop-call.paths.items
    (c.args.paths.now.items ++ flat_map (stale_by c.args.self.now.tree) c.args.calls.now) c.add_paths.new.paths.items c.loop-call-test.true c.call-item.is
    (c.in_ok-add_paths.ensures ∙ ap (λ more. c.loop-call.paths.items ++ more) c.in_ok-more.ensures) c.loop-call.invariant

pub returns : goal.returns
returns g c =
    flat_end (stale_by c.args.self.now.tree) c.args.calls.now c.loop-call.call-index c.loop-call.paths.items
    (c.args.paths.now.items ++ flat_map (stale_by c.args.self.now.tree) c.args.calls.now) c.loop-call-test.false c.loop-call.invariant
