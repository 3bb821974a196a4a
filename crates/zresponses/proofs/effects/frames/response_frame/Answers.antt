use Rattle.std.proofs.Common.{◌≡◌, length, ap, ◌∙◌}
use Rattle.zresponses.proofs.effects_lemmas.Short.{response_fits}
use Rattle.zresponses.proofs.effects.frames.response_frame.Goals as goal

pub unreachable-requires : goal.unreachable-requires
unreachable-requires c =
    let sixteen : length c.in_ok-copied.field-0 ≡ 16 = ap length (c.in_ok-copied.ensures ∙ c.as_bytes.ensures.bytes) ∙ c.as_bytes.ensures.length in
    response_fits _ sixteen (c.in-Err-TooLong.ensures.long c.in-Err-TooLong.field-0-is)
