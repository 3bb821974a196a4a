use Rattle.std.proofs.Common.{◌++◌, ap, ◌∙◌}
use Rattle.std.specs.List.{flat_map}
use Rattle.ztree_service.specs.Sizes.{owned_by}
use Rattle.zfront.specs.Front.{FrontView}
use Rattle.zfront.proofs.Flat.{flat_more, flat_end}
use Rattle.zfront.proofs.inner.Inner.add_owned.Goals as goal

pub loop-id-preserved : goal.loop-id-preserved
loop-id-preserved g c =
    flat_more (owned_by c.args.self.now.tree) c.args.ids.now c.loop-id.id-index c.id-item.result c.loop-id.paths.items
    (c.args.paths.now.items ++ flat_map (owned_by c.args.self.now.tree) c.args.ids.now) c.add_paths.new.paths.items c.loop-id-test.true c.id-item.is
    (c.in_ok-add_paths.ensures ∙ ap (λ more. c.loop-id.paths.items ++ more)
    (c.in_ok-more.ensures ∙ ap (λ (v : FrontView). owned_by v.tree c.id-item.result) c.self.view_is)) c.loop-id.invariant

pub returns : goal.returns
returns g c =
    flat_end (owned_by c.args.self.now.tree) c.args.ids.now c.loop-id.id-index c.loop-id.paths.items
    (c.args.paths.now.items ++ flat_map (owned_by c.args.self.now.tree) c.args.ids.now) c.loop-id-test.false c.loop-id.invariant
