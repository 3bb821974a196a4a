use Rattle.std.proofs.Common.{◌≡◌}
use Rattle.zscript_text.specs.Shape.{parts_shape}
use Rattle.zscript_text.proofs.PartsShape.{before}
use Rattle.zscript_text.proofs.shape.all_parts.Given as goal

abbrev pub invariant-loop-room : goal.invariant-loop-room
invariant-loop-room l = parts_shape 64 l.fn.words ≡ before l.parts.items (parts_shape l.room l.words)

abbrev pub decreases-loop-room : goal.decreases-loop-room
decreases-loop-room l = l.room
