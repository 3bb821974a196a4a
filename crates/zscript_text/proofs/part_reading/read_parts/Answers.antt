use Rattle.std.proofs.Common.{◌∙◌}
use Rattle.zscript_text.proofs.PartsRead.{one_more_read}
use Rattle.zscript_text.proofs.part_reading.read_parts.Goals as goal

pub loop-part-preserved : goal.loop-part-preserved
loop-part-preserved c =
    rw c.in_ok-push.ensures.items
    (c.loop-part.invariant
    ∙ one_more_read c.args.words.now c.loop-part.part-index c.part-item.result c.in_ok-read_part.field-0
    c.loop-part.parts.items c.loop-part-test.true c.part-item.is c.in_ok-read_part.ensures.found)
