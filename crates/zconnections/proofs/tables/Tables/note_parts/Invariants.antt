use Rattle.std.proofs.Common.{◌≡◌, drop}
use Rattle.zconnections.specs.Sweeping.{made_by_parts}
use Rattle.zconnections.proofs.tables.Tables.note_parts.Given as goal

-- the parts that are left lead to what all lead to
abbrev pub invariant-loop-part : goal.invariant-loop-part
invariant-loop-part l =
    record l.self { attachments = made_by_parts (drop l.part-index l.parts) l.self.attachments }
    ≡ record l.fn.self { attachments = made_by_parts l.parts l.fn.self.attachments }
