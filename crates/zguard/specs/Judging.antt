-- What a frame of a stranger brings: a connection that has yet to give a login. The sources are
-- zookeeper.jute (`RequestHeader`, `AuthPacket`, `ReplyHeader`) and the ZooKeeper Administrator's
-- Guide, "Authentication & Authorization Options" (`enforce.auth.enabled`).
use Rattle.std.specs.Prelude.{ℕ, ℤ, pos, Bool, false, ◌&&◌, nat_lt, List, [], length, drop, codes, bytes_eq, Option, None, Some, Result, Ok, Err, if◌then◌else◌}
use Rattle.std.specs.Ordering.{int_eq}
use Rattle.zcodec.specs.declared.fault.Fault.{Fault}
use Rattle.zcodec.specs.Forms.{both}
use Rattle.zcodec.specs.Readers.{whole}
use Rattle.zjute.specs.Asking.{request}
use Rattle.zjute.specs.Frames.{Front, Whole, Partial, TooLong, frame, next_of}
use Rattle.zjute.specs.Jute.{int}
use Rattle.zjute.specs.Replies.{reply_text}
use Rattle.zjute.specs.declared.code.Code.{Code}
use Rattle.zjute.specs.declared.code.Code.TheVariants.{AuthFailed, SessionClosedRequireSaslAuth}
use Rattle.zjute.specs.declared.reply.Body.TheVariants.{Nothing}
use Rattle.zjute.specs.declared.request.Asked.{Asked}
use Rattle.zjute.specs.declared.request.Asked.TheVariants as asked
use Rattle.zjute.specs.declared.request.Auth.{Auth}
use Rattle.zjute.specs.declared.request.Request.{Request}
use Rattle.zlogins.specs.Logins.{is_listed}
use Rattle.zguard.specs.declared.limits.TheConstants.{AUTH, MAX_KEPT}
use Rattle.zguard.specs.declared.verdict.Verdict.{Verdict}
use Rattle.zguard.specs.declared.verdict.Verdict.TheVariants as code

-- nothing is decided yet; it has given a login; it is refused with this answer, which may be none
pub data VerdictView : Type 0 where
  Waits : VerdictView
  Admits : VerdictView
  Refuses : List ℕ → VerdictView

-- the code's verdict, without its address in memory
abbrev pub verdict_of : Verdict → VerdictView
verdict_of code.Waits = Waits
verdict_of code.Admits = Admits
verdict_of (code.Refuses answer) = Refuses answer.items

-- ---- an auth

-- the scheme is `digest`
abbrev pub is_digest : List ℕ → Bool
is_digest scheme = bytes_eq scheme (codes "digest")

-- the scheme is `digest`, and the credentials are the `user:password` of one of these logins
abbrev pub is_given : List (List ℕ) → Option (List ℕ) → Option (List ℕ) → Bool
is_given logins (Some scheme) (Some given) = is_digest scheme && is_listed logins given
is_given logins (Some scheme) None = false
is_given logins None given = false

abbrev pub gives_login : List (List ℕ) → Auth → Bool
gives_login logins auth = is_given logins auth.scheme auth.auth

-- the answer to the request with this xid: a header alone, with the zxid 0
abbrev pub refusal : ℤ → Code → List ℕ
refusal xid code = frame (reply_text (record { xid = xid; zxid = pos 0; code = code; body = Nothing }))

-- an auth admits by a login, and is refused with AuthFailed without one
abbrev pub asked_judged : List (List ℕ) → ℤ → Asked → VerdictView
asked_judged logins xid (asked.Auth auth) = if gives_login logins auth then Admits else Refuses (refusal xid AuthFailed)
asked_judged logins xid other = Refuses []

-- invalid bytes have no answer
abbrev pub request_judged : List (List ℕ) → Result Request Fault → VerdictView
request_judged logins (Err fault) = Refuses []
request_judged logins (Ok r) = asked_judged logins r.xid r.asked

abbrev pub auth_judged : List (List ℕ) → List ℕ → VerdictView
auth_judged logins bytes = request_judged logins (whole request bytes)

-- ---- any request

-- the xid and the kind of a request, the two numbers at the front of its frame
abbrev pub read_head : Result ((ℤ × ℤ) × List ℕ) Fault → Option (ℤ × ℤ)
read_head (Err fault) = None
read_head (Ok found) = Some found.0

abbrev pub head_of : List ℕ → Option (ℤ × ℤ)
head_of bytes = read_head ((both int int).read bytes)

-- any other request is refused, whatever follows its head; a frame without a head has no answer
abbrev pub by_head : Option (ℤ × ℤ) → VerdictView → VerdictView → VerdictView
by_head None headless of_auth = headless
by_head (Some head) headless of_auth =
    if int_eq head.1 AUTH then of_auth else Refuses (refusal head.0 SessionClosedRequireSaslAuth)

abbrev pub frame_judged : List (List ℕ) → List ℕ → VerdictView
frame_judged logins bytes = by_head (head_of bytes) (Refuses []) (auth_judged logins bytes)

-- a frame that isn't whole yet is refused by its head, too; the rest of an auth is waited for
abbrev pub part_judged : List ℕ → VerdictView
part_judged came =
    by_head (head_of (drop 4 came)) Waits (if nat_lt MAX_KEPT (length came) then Refuses [] else Waits)

-- the bytes behind a connect request
abbrev pub front_judged : List (List ℕ) → List ℕ → Front → VerdictView
front_judged logins came (Whole bytes more) = frame_judged logins bytes
front_judged logins came Partial = part_judged came
front_judged logins came TooLong = Refuses []

abbrev pub judged : List (List ℕ) → List ℕ → VerdictView
judged logins came = front_judged logins came (next_of came)
