use Rattle.std.proofs.Common.{◌≡◌, ◌++◌, drop}
use Rattle.std.specs.List.{filter}
use Rattle.zconnections.specs.Sweeping.{is_gone}
use Rattle.zfront.proofs.inner.Inner.gone_among.Given as goal

-- those so far and those of the ids that are left are all
abbrev pub invariant-loop-id : goal.invariant-loop-id
invariant-loop-id g l =
    l.gone.items ++ filter (is_gone l.self.tree.sessions) (drop l.id-index l.ids)
    ≡ filter (is_gone l.self.tree.sessions) l.ids
