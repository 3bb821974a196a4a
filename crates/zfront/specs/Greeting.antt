-- The effect of a connect request, the first frame of a connection. The source is zookeeper.jute
-- (`ConnectRequest`) and the ZooKeeper Programmer's Guide, "ZooKeeper Sessions".
use Rattle.std.specs.Prelude.{ℕ, ℤ, pos, negsuc, List, [], ◌∷◌, Result, Ok, Err, if◌then◌else◌}
use Rattle.std.specs.Option.{option_map_or}
use Rattle.std.specs.Ordering.{int_eq}
use Rattle.std.specs.FinMap.{get}
use Rattle.zcodec.specs.Readers.{whole}
use Rattle.zcodec.specs.declared.fault.Fault.{Fault}
use Rattle.zcalls.specs.declared.call.Call.{Call}
use Rattle.zcalls.specs.declared.call.Call.TheVariants.{Update}
use Rattle.zcalls.specs.declared.call.Update.TheVariants.{Open}
use Rattle.zcalls.specs.declared.reply.Reply.{Reply}
use Rattle.zcalls.specs.declared.reply.Reply.TheVariants.{Opened}
use Rattle.zjute.specs.Connecting.{connect_request}
use Rattle.zjute.specs.declared.connecting.ConnectRequest.{ConnectRequest}
use Rattle.zrequests.specs.Timeouts.{ticks_asked}
use Rattle.zpasswords.specs.Passwords.{password_of}
use Rattle.zconnections.specs.Tables.{TablesView, closed}
use Rattle.zresponses.specs.Stats.{told}
use Rattle.zresponses.specs.effects.Greeting.{welcomed, came_back, turned_away, is_ahead}
use Rattle.zfront.specs.Front.{FrontView, with_tables, asked, replies_to}

-- the call that opens a session
abbrev pub opening : ℕ → ConnectRequest → Call
opening tick greeting = Update (Open (ticks_asked tick greeting.timeout))

-- the client gets the new session and the password derived for it; if none was opened, the
-- connection is closed
abbrev pub opened : ℕ → List ℕ → ConnectRequest → ℕ → List Reply → TablesView → TablesView
opened tick secret greeting c (Opened session ticks ∷ replies) t =
    welcomed tick greeting session ticks (password_of secret session) c t
opened tick secret greeting c replies t = closed c t

-- a session is opened for a connection
abbrev pub with_session : ConnectRequest → ℕ → FrontView → FrontView
with_session greeting c v =
    let calls = opening v.clock.terms.tick greeting ∷ [] in
    with_tables (opened v.clock.terms.tick v.secret greeting c (replies_to calls v) v.tables) (asked calls v)

-- a client comes back to the session with this number, if the tree has it
abbrev pub returned : ConnectRequest → ℤ → ℕ → FrontView → TablesView
returned greeting (pos session) c v =
    option_map_or (λ s. came_back v.clock.terms.tick greeting session s.timeout (password_of v.secret session) c v.tables)
    (get v.tree.sessions session) (turned_away greeting c v.tables)
returned greeting (negsuc n) c v = turned_away greeting c v.tables

-- a connect request, or invalid bytes: these close the connection, and so does a client that has
-- seen more changes than the tree has. Session number 0 asks for a new session
abbrev pub greeted_by : Result ConnectRequest Fault → ℕ → FrontView → FrontView
greeted_by (Err fault) c v = with_tables (closed c v.tables) v
greeted_by (Ok greeting) c v =
    if is_ahead (told v.clock.base v.tree.zxid) greeting then with_tables (closed c v.tables) v else
    if int_eq greeting.session_id (pos 0) then with_session greeting c v else
    with_tables (returned greeting greeting.session_id c v) v

-- the first frame of a connection
abbrev pub greeted : List ℕ → ℕ → FrontView → FrontView
greeted bytes c v = greeted_by (whole connect_request bytes) c v
