use Rattle.zguard.proofs.Short.{header_fits}
use Rattle.zguard.proofs.judging.refuse.Goals as goal

pub unreachable-requires : goal.unreachable-requires
unreachable-requires c = header_fits _ _ _ (c.in-Err-TooLong.ensures.long c.in-Err-TooLong.field-0-is)
