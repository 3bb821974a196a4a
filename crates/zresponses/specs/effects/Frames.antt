-- Answers as frames. The source is zookeeper.jute (`ReplyHeader`, `ConnectResponse`).
use Rattle.std.specs.Prelude.{ℕ, ℤ, pos, Bool, true, false, List, Option, length, nat_lt, if◌then◌else◌}
use Rattle.std.specs.Option.{option_map}
use Rattle.zjute.specs.declared.limits.TheConstants.{MAX_FRAME}
use Rattle.zjute.specs.declared.code.Code.{Code}
use Rattle.zjute.specs.declared.code.Code.TheVariants as code
use Rattle.zjute.specs.declared.connecting.ConnectRequest.{ConnectRequest}
use Rattle.zjute.specs.declared.connecting.ConnectResponse.{ConnectResponse}
use Rattle.zjute.specs.Connecting.{connect_response}
use Rattle.zjute.specs.Frames.{frame}
use Rattle.zjute.specs.Replies.{reply_text}
use Rattle.zresponses.specs.declared.answer.Answer.{Answer}
use Rattle.zresponses.specs.Answers.{failed}

-- the answer to the request with this xid, after its header, which has the zxid of the tree as
-- clients are told it
abbrev pub answer_text : ℤ → ℤ → Answer → List ℕ
answer_text zxid xid answer =
    reply_text (record { xid = xid; zxid = zxid; code = answer.code; body = answer.body })

-- the error for an answer that no frame can hold
abbrev pub too_long : Answer
too_long = failed code.MarshallingError

-- the text of the answer, or of that error
abbrev pub text_reported : ℤ → ℤ → Answer → List ℕ
text_reported zxid xid answer =
    if nat_lt MAX_FRAME (length (answer_text zxid xid answer))
    then answer_text zxid xid too_long
    else answer_text zxid xid answer

-- an answer as a frame
abbrev pub answer_frame : ℤ → ℤ → Answer → List ℕ
answer_frame zxid xid answer = frame (text_reported zxid xid answer)

-- after an answer with this code the connection is closed: the client's identity was refused
abbrev pub ends_connection : Code → Bool
ends_connection code.AuthFailed = true
ends_connection other = false

-- the server isn't read-only; a client that knows the flag gets it
abbrev pub flag_reported : ConnectRequest → Option Bool
flag_reported request = option_map (λ asked. false) request.read_only

-- the connect response
abbrev pub response : ConnectRequest → ℤ → ℤ → List ℕ → ConnectResponse
response request timeout session password = record {
  protocol_version = pos 0;
  timeout = timeout;
  session_id = session;
  password = password;
  read_only = flag_reported request;
}

-- as a frame
abbrev pub response_frame : ConnectRequest → ℤ → ℤ → List ℕ → List ℕ
response_frame request timeout session password = frame (connect_response.spell (response request timeout session password))
