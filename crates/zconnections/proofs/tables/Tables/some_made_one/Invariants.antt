use Rattle.std.proofs.Common.{◌≡◌, drop}
use Rattle.zconnections.specs.Sweeping.{some_made_one}
use Rattle.zconnections.proofs.tables.Tables.some_made_one.Given as goal

-- of the sessions that are left one did exactly if one of all did
abbrev pub invariant-loop-id : goal.invariant-loop-id
invariant-loop-id l =
    some_made_one l.self.attachments (drop l.id-index l.ids) ≡ some_made_one l.self.attachments l.ids
