-- What a node answers to a turn: its status, if the host doesn't know it; the entry that it asks for;
-- records for each process; and an end.
use Rattle.std.specs.List.{AllByRecursion}
use Rattle.std.specs.Prelude.{◌≡◌, ◌≢◌, ◌⊎◌, ℕ, ◌+◌, ◌==◌, ◌<◌, ◌≤◌, Bool, true, false, ◌&&◌, not, is_some, is_none, if◌then◌else◌, List, [], ◌∷◌, ◌++◌, length, Option, None, Some, unwrap_or}
use Rattle.zprotocol.specs.declared.process.Process.{Process}
use Rattle.zprotocol.specs.declared.process.Process.TheVariants.{Server}
use Rattle.zprotocol.specs.declared.limits.TheConstants.{PROCESSES}
use Rattle.zprotocol.specs.Places.{place_of}
use Rattle.zmaster_log.specs.declared.entry.LogEntry.{LogEntry}
use Rattle.zmaster_log.specs.Bytes.{entry}
use Rattle.zwire.specs.declared.limits.TheConstants.{MAX_FRAME}
use Rattle.zpeers.specs.Records.{LinkRecord}
use Rattle.zpeers.specs.Outgoing.{OutgoingView, records_for, waiting_for}
use Rattle.znode.specs.declared.limits.TheConstants.{MAX_WRITTEN}
use Rattle.znode.specs.declared.status.NodeStatus.{NodeStatus}
use Rattle.znode.specs.pipe.Outputs.{OutputView, Send, Append, Status, End}
use Rattle.znode.specs.Node.{NodeView, status_of}
use Rattle.znode.specs.Server.{is_link}
use Rattle.znode.specs.Entries.{wanted}

-- ---- the status

abbrev pub flag : Bool → ℕ → ℕ
flag b n = if b then n else 0

-- 1 if the server is live, 2 if it has the state, 4 if it is gone
abbrev pub flags_of : NodeStatus → ℕ
flags_of s = flag s.is_live 1 + flag s.has_state 2 + flag (is_some s.own && not s.is_live) 4

abbrev pub number_of : NodeStatus → ℕ
number_of s = unwrap_or s.own 0

abbrev pub status_output : NodeStatus → OutputView
status_output s = Status (number_of s) (flags_of s)

-- it has the number and the flags that the host knows
abbrev pub is_known : Option NodeStatus → NodeStatus → Bool
is_known None s = false
is_known (Some known) s = number_of known == number_of s && flags_of known == flags_of s

abbrev pub known_output : Option NodeStatus → NodeStatus → List OutputView
known_output known s = if is_known known s then [] else status_output s ∷ []

-- ---- the log

-- the entry that a node asks for, once it has read all of the log, and once for each index
abbrev pub asking : NodeView → Option LogEntry
asking v = if v.is_at_end && is_none v.asked then wanted v else None

abbrev pub asked_output : ℕ → Option LogEntry → List OutputView
asked_output played None = []
asked_output played (Some e) = Append played (entry.spell e) ∷ []

abbrev pub asked_after : Option (List ℕ) → Option LogEntry → Option (List ℕ)
asked_after asked None = asked
asked_after asked (Some e) = Some (entry.spell e)

-- ---- records

abbrev pub sent_for : Process → Process → LinkRecord → List LinkRecord
sent_for p to r = if is_link p to then r ∷ [] else []

-- the records for a process among outputs, in order
abbrev pub sent_to : Process → List OutputView → List LinkRecord
sent_to p [] = []
sent_to p (Send to r ∷ outputs) = sent_for p to r ++ sent_to p outputs
sent_to p (other ∷ outputs) = sent_to p outputs

-- The first records that wait for a process are sent, in order: as many as are allowed at one turn,
-- or all of them.
pub record AreSentTo (own p : Process) (records : List LinkRecord) (old new : OutgoingView) : Type 0 where
  pub first : records_for old own p ≡ records ++ records_for new own p
  pub few : length records ≤ MAX_WRITTEN
  pub most : (length records ≡ MAX_WRITTEN) ⊎ (waiting_for new p ≡ [])

-- a server or a client: each has a link
abbrev pub HasLink : Process → Type 0
HasLink p = (0 < place_of p) × (place_of p < PROCESSES)

abbrev pub IsSend : OutputView → Type 0
IsSend (Send to r) = HasLink to
IsSend other = ⊥

-- Records are sent, to each process its own. A node without a server sends none.
abbrev pub Sends : Option ℕ → List OutputView → OutgoingView → OutgoingView → Type 0
Sends None outputs old new = (outputs ≡ []) × (new ≡ old)
Sends (Some own) outputs old new =
    AllByRecursion IsSend outputs
    × ((p : Process) → HasLink p → AreSentTo (Server own) p (sent_to p outputs) old new)

-- something waits for some process, or nothing waits for any
abbrev pub Waits : Bool → OutgoingView → Type 0
Waits true o = (p : Process) × (waiting_for o p ≢ [])
Waits false o = (p : Process) → HasLink p → waiting_for o p ≡ []

-- a record that waits for a process is longer than any may be
abbrev pub HasLongFor : ℕ → Process → OutgoingView → Type 0
HasLongFor own to o =
    (front : List LinkRecord) × (r : LinkRecord) × (back : List LinkRecord)
    × (records_for o (Server own) to ≡ front ++ r ∷ back) × (MAX_FRAME < length r.bytes)

abbrev pub HasLong : ℕ → OutgoingView → Type 0
HasLong own o = (to : Process) × HasLongFor own to o

-- ---- an answer

pub record Answers (v : NodeView) (outputs : List OutputView) (w : NodeView) : Type 0 where
  pub records : List OutputView
  pub sends : Sends v.replica.own records v.seat.outgoing w.seat.outgoing
  pub more : Bool
  pub waits : Waits more w.seat.outgoing
  pub all : outputs ≡ known_output v.known (status_of v) ++ asked_output v.replica.played (asking v) ++ records ++ End more ∷ []
  pub rest : w ≡ record v {
    known = Some (status_of v);
    asked = asked_after v.asked (asking v);
    seat = record v.seat { outgoing = w.seat.outgoing };
  }
