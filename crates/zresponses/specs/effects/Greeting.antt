-- Connect requests: the first frame of a connection. The source is zookeeper.jute
-- (`ConnectRequest`) and the ZooKeeper Programmer's Guide, "ZooKeeper Sessions".
use Rattle.std.specs.Prelude.{ℕ, ℤ, pos, Bool, List, [], int_lt, nat_eq, replicate, if◌then◌else◌}
use Rattle.std.specs.Option.{option_map_or}
use lib.Pointwise.{pointwise}
use Rattle.zjute.specs.declared.connecting.ConnectRequest.{ConnectRequest}
use Rattle.zresponses.specs.Stats.{long_of}
use Rattle.zrequests.specs.Timeouts.{millis_reported}
use Rattle.zconnections.specs.Tables.{TablesView, sent, closed, attachment, taken_up}
use Rattle.zresponses.specs.effects.Frames.{response_frame}

-- the client has seen changes that this tree doesn't have, whose last zxid is told as this
abbrev pub is_ahead : ℤ → ConnectRequest → Bool
is_ahead zxid request = int_lt zxid request.last_zxid_seen

-- a connect response is sent, with the session and its timeout in milliseconds
abbrev pub session_reported : ConnectRequest → ℕ → ℤ → List ℕ → ℕ → TablesView → TablesView
session_reported request session timeout password c t =
    sent c (response_frame request timeout (long_of session) password) t

-- a new session, with the timeout granted in ticks
abbrev pub welcomed : ℕ → ConnectRequest → ℕ → ℕ → List ℕ → ℕ → TablesView → TablesView
welcomed tick request session ticks password c t =
    session_reported request session (millis_reported tick ticks) password c (attachment session c t)

-- a client without a session gets a response that says so, and its connection is closed
abbrev pub turned_away : ConnectRequest → ℕ → TablesView → TablesView
turned_away request c t = closed c (sent c (response_frame request (pos 0) (pos 0) (replicate 16 0)) t)

-- the bytes of the password in the request
abbrev pub given : ConnectRequest → List ℕ
given request = option_map_or (λ bytes. bytes) request.password []

-- a client comes back to a session of the tree; it must give the session's whole password
abbrev pub came_back : ℕ → ConnectRequest → ℕ → ℕ → List ℕ → ℕ → TablesView → TablesView
came_back tick request session ticks password c t =
    if pointwise nat_eq (given request) password
    then session_reported request session (millis_reported tick ticks) password c (taken_up session c t)
    else turned_away request c t
