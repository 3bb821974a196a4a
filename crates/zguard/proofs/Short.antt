-- A header alone is short enough for a frame.
use Rattle.std.proofs.Common.{◌≡◌, ◌<◌, ℤ, length, refl, arith}
use Rattle.zjute.specs.declared.limits.TheConstants.{MAX_FRAME}
use Rattle.zjute.specs.declared.code.Code.{Code}
use Rattle.zjute.specs.declared.reply.Body.TheVariants as body
use Rattle.zjute.specs.Jute.{int, long}
use Rattle.zjute.specs.Replies.{reply_text}

-- it has sixteen bytes
header_length : (xid zxid : ℤ) (code : Code) → length (reply_text (record { xid = xid; zxid = zxid; code = code; body = body.Nothing })) ≡ 16
unfolding reply_text int long
header_length xid zxid code = refl

-- so it isn't too long
pub header_fits : (xid zxid : ℤ) (code : Code) → MAX_FRAME < length (reply_text (record { xid = xid; zxid = zxid; code = code; body = body.Nothing })) → ⊥
header_fits xid zxid code long = omega (arith, header_length xid zxid code)
