-- A header alone, and the answer to a first frame, are short enough for a frame.
use Rattle.std.proofs.Common.{◌≡◌, ◌<◌, ◌≤◌, ℤ, length, Option, Some, None, Bool, true, false, refl, arith, length-append}
use Rattle.zjute.specs.declared.limits.TheConstants.{MAX_FRAME}
use Rattle.zjute.specs.declared.code.Code.{Code}
use Rattle.zjute.specs.declared.connecting.ConnectResponse.{ConnectResponse}
use Rattle.zjute.specs.declared.reply.Body.TheVariants as body
use Rattle.zjute.specs.Jute.{int, long, text}
use Rattle.zjute.specs.Connecting.{connect_response, flag_if_any}
use Rattle.zjute.specs.Replies.{reply_text}

-- a header alone has sixteen bytes
pub header_length : (xid zxid : ℤ) (code : Code) → length (reply_text (record { xid = xid; zxid = zxid; code = code; body = body.Nothing })) ≡ 16
unfolding reply_text int long
header_length xid zxid code = refl

-- so it isn't too long
pub header_fits : (xid zxid : ℤ) (code : Code) → MAX_FRAME < length (reply_text (record { xid = xid; zxid = zxid; code = code; body = body.Nothing })) → ⊥
header_fits xid zxid code long = omega (arith, header_length xid zxid code)

-- a flag has one byte at most
flag_short : (flag : Option Bool) → length (flag_if_any flag) ≤ 1
flag_short None = omega arith
flag_short (Some true) = omega arith
flag_short (Some false) = omega arith

-- nor is the answer to a first frame, with a session's password
pub response_fits : (r : ConnectResponse) → length r.password ≡ 16 → MAX_FRAME < length (connect_response.spell r) → ⊥
unfolding connect_response int long text
response_fits r sixteen too_long =
    let flag = flag_short r.read_only in
    let both = length-append r.password (flag_if_any r.read_only) in
    omega arith
