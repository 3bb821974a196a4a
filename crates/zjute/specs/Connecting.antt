-- The first frame of a connection, and the response. The last byte of each may be missing: clients
-- before 3.4 don't have it.
use Rattle.std.specs.Prelude.{ℕ, List, [], ◌∷◌, Bool, Option, Some, None, Result, Ok}
use Rattle.zcodec.specs.declared.fault.Fault.{Fault}
use Rattle.zcodec.specs.Forms.{Form, both, ◌>>=◌}
use Rattle.zcodec.specs.Choices.{flag}
use Rattle.zjute.specs.declared.connecting.ConnectRequest.{ConnectRequest}
use Rattle.zjute.specs.declared.connecting.ConnectResponse.{ConnectResponse}
use Rattle.zjute.specs.Jute.{int, long, buffer, text}
use Rattle.zjute.specs.Shapes.{fields}

-- a flag, or nothing
abbrev pub flag_if_any : Option Bool → List ℕ
flag_if_any None = []
flag_if_any (Some b) = flag.spell b

-- nothing if the bytes end, else a flag
abbrev pub flag_or_end : List ℕ → Result (Option Bool × List ℕ) Fault
flag_or_end [] = Ok (None, [])
flag_or_end (byte ∷ bytes) = flag.read (byte ∷ bytes) >>= λ x. Ok (Some x.0, x.1)

abbrev pub last_flag : Form (Option Bool)
last_flag = record { spell = flag_if_any; read = flag_or_end; Fits = λ _. Unit {0} }

-- `ConnectRequest`
unfoldable pub connect_request : Form ConnectRequest
connect_request = fields (both int (both long (both int (both long (both buffer last_flag)))))
    (λ c. (c.protocol_version, (c.last_zxid_seen, (c.timeout, (c.session_id, (c.password, c.read_only))))))
    (λ f. record {
      protocol_version = f.0;
      last_zxid_seen = f.1.0;
      timeout = f.1.1.0;
      session_id = f.1.1.1.0;
      password = f.1.1.1.1.0;
      read_only = f.1.1.1.1.1;
    })

-- `ConnectResponse`
unfoldable pub connect_response : Form ConnectResponse
connect_response = fields (both int (both int (both long (both text last_flag))))
    (λ c. (c.protocol_version, (c.timeout, (c.session_id, (c.password, c.read_only)))))
    (λ f. record {
      protocol_version = f.0;
      timeout = f.1.0;
      session_id = f.1.1.0;
      password = f.1.1.1.0;
      read_only = f.1.1.1.1;
    })
