use Rattle.std.proofs.Common.{◌≡◌, ◌++◌, Ok, drop}
use Rattle.zscript_text.specs.Request.{then_read, parts_in}
use Rattle.zscript_text.proofs.part_reading.read_parts.Given as goal

abbrev pub invariant-loop-part : goal.invariant-loop-part
invariant-loop-part l = parts_in l.words ≡ then_read (parts_in (drop l.part-index l.words)) (λ more. Ok (l.parts.items ++ more))
