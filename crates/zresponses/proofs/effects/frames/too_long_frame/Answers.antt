use Rattle.zresponses.proofs.effects_lemmas.Short.{header_fits}
use Rattle.zresponses.proofs.effects.frames.too_long_frame.Goals as goal

pub unreachable-requires : goal.unreachable-requires
unreachable-requires c = header_fits _ _ _ (c.in-Err-TooLong.ensures.long c.in-Err-TooLong.field-0-is)
