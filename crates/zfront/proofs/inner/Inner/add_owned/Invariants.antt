use Rattle.std.proofs.Common.{◌≡◌, ◌++◌, drop}
use Rattle.std.specs.List.{flat_map}
use Rattle.ztree_service.specs.Sizes.{owned_by}
use Rattle.zfront.proofs.inner.Inner.add_owned.Given as goal

-- those so far and those of the ids that are left are all
abbrev pub invariant-loop-id : goal.invariant-loop-id
invariant-loop-id g l =
    l.paths.items ++ flat_map (owned_by l.self.tree) (drop l.id-index l.ids)
    ≡ l.initial.paths.items ++ flat_map (owned_by l.self.tree) l.ids
