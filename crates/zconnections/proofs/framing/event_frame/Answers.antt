use Rattle.std.proofs.Common.{arith}
use Rattle.zjute.specs.Jute.{neg}
use Rattle.zconnections.proofs.Frames.{event_is_short}
use Rattle.zconnections.proofs.framing.event_frame.Goals as goal

pub unreachable-requires : goal.unreachable-requires
unreachable-requires c =
    omega (arith, c.in-Err-TooLong.ensures.long c.in-Err-TooLong.field-0-is, event_is_short (neg 1) c.in_ok-reported.reported c.in_ok-reported.ensures.short)
