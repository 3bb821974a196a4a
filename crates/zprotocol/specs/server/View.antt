-- The view of a server: its state, over any state machine.
use Rattle.std.specs.Prelude.{ℕ, ◌+◌, ◌-◌, Bool, ◌&&◌, Option, None, Some, List, [], if◌then◌else◌, is_some, is_none, nat_lt, ◌==◌}
use Rattle.zcalls.specs.declared.call.Entry.{Entry}
use Rattle.zprotocol.specs.declared.message.Message.{Message}
use Rattle.zprotocol.specs.declared.process.Process.{Process}
use Rattle.zprotocol.specs.server.Machine.{Does}

-- the contents of a Snapshot: the machine, and the number of its last entry
pub record Transfer (M : Type 0) : Type 0 where
  pub last : ℕ
  pub machine : M

-- the messages between processes, for servers with such machines
abbrev pub MessageOf : Type 0 → Type 0
MessageOf M = Message (Transfer M)

-- an outgoing message with its receiver
abbrev pub PostOf : Type 0 → Type 0
PostOf T = Process × Message T

-- an outgoing message with its receiver, for servers with such machines
abbrev pub Post : Type 0 → Type 0
Post M = PostOf (Transfer M)

-- a neighbour in the chain, with the epoch of the pair
abbrev pub Neighbour : Type 0
Neighbour = ℕ × ℕ

-- The state of a server: its machine (none: no state), and the number of the last entry. Then Sent:
-- the numbered entries it forwarded that the tail may not have processed. Then its predecessor and
-- its successor.
pub record ServerView (M : Type 0) : Type 0 where
  pub machine : Option M
  pub last : ℕ
  pub sent : List (ℕ × Entry)
  pub pred : Option Neighbour
  pub succ : Option Neighbour

-- the server has the state
abbrev pub is_initialised : {M : Type 0} → ServerView M → Bool
is_initialised v = is_some v.machine

-- the server is the head: it accepts updates from clients
abbrev pub is_head : {M : Type 0} → ServerView M → Bool
is_head v = is_initialised v && is_none v.pred

-- the server is the tail: it replies to clients
abbrev pub is_tail : {M : Type 0} → ServerView M → Bool
is_tail v = is_initialised v && is_none v.succ

-- a server outside the chain, without state
abbrev pub spare : {M : Type 0} → ServerView M
spare = record { machine = None; last = 0; sent = []; pred = None; succ = None }

-- a member of the initial chain: a machine in its initial state, and these neighbours
abbrev pub member : {M : Type 0} → Does M → Option Neighbour → Option Neighbour → ServerView M
member does pred succ = record { machine = Some does.start; last = 0; sent = []; pred = pred; succ = succ }

-- The initial view of server `s`. Servers 1 to `servers` form the chain, with epoch 0 for all
-- pairs; the others are spare.
abbrev pub opening_server : {M : Type 0} → Does M → ℕ → ℕ → ServerView M
opening_server does servers s =
    if s == 0 then spare else
    if nat_lt servers s then spare else
    member does (if s == 1 then None else Some (s - 1, 0)) (if s == servers then None else Some (s + 1, 0))
