use Rattle.std.proofs.Common.{◌≡◌, drop}
use Rattle.zconnections.specs.Sweeping.{swept_all}
use Rattle.zconnections.proofs.tables.Tables.sweep_all.Given as goal

-- the sessions that are left lead to what all lead to
abbrev pub invariant-loop-id : goal.invariant-loop-id
invariant-loop-id l = swept_all (drop l.id-index l.ids) l.self ≡ swept_all l.ids l.fn.self
