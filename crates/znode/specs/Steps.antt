-- What a node does with an input, and why it takes none. A node that fails takes no further input.
use Rattle.std.specs.Prelude.{◌≡◌, ◌≢◌, ◌⊎◌, ℕ, ◌==◌, Bool, true, false, not, ◌&&◌, is_some, if◌then◌else◌, List, [], ◌∷◌, ◌++◌, Option, None, Some, Err}
use Rattle.std.specs.List.{list_any}
use Rattle.zcodec.specs.declared.fault.Fault.{Fault}
use Rattle.zcodec.specs.Readers.{whole}
use Rattle.zprotocol.specs.declared.process.Process.{Process}
use Rattle.zprotocol.specs.declared.process.Process.TheVariants.{Master, Server, Client}
use Rattle.zserver.specs.Server.{TreeMessage}
use Rattle.zmaster_log.specs.declared.limits.TheConstants.{MAX_ENTRIES}
use Rattle.zmaster_log.specs.declared.entry.News.{News}
use Rattle.zmaster_log.specs.declared.entry.News.TheVariants as news
use Rattle.zmaster_log.specs.Bytes.{entry}
use Rattle.zmaster_log.specs.Log.{has_live}
use Rattle.zpeers.specs.Records.{LinkRecord}
use Rattle.zpeers.specs.declared.fault.PeerFault.{PeerFault}
use Rattle.zpeers.specs.declared.fault.PeerFault.TheVariants as peer
use Rattle.zpeers.specs.Incoming.{ArrivingView, Accepts, IsPeerFault, OthersArrive, arriving_from}
use Rattle.zpeers.specs.Outgoing.{OthersWait, waiting_for}
use Rattle.znode.specs.declared.fault.NodeFault.{NodeFault}
use Rattle.znode.specs.declared.fault.NodeFault.TheVariants as fault
use Rattle.znode.specs.pipe.Inputs.{InputView, Entry, CaughtUp, Link, Lost, Turn, Ended}
use Rattle.znode.specs.pipe.Outputs.{OutputView}
use Rattle.znode.specs.Node.{NodeView, has_ended}
use Rattle.znode.specs.Server.{HearsAny}
use Rattle.znode.specs.Entries.{Plays}
use Rattle.znode.specs.Turns.{Answers, HasLong}

-- ---- links

-- A record of a client that is refused, but not because memory ran out: it is dropped, and the node
-- goes on.
abbrev pub IsDropped : ℕ → Process → LinkRecord → Option ArrivingView → Type 0
IsDropped own (Client c) r loaded = (it : PeerFault) × (it ≢ peer.Memory) × IsPeerFault (Server own) (Client c) r loaded it
IsDropped own from r loaded = ⊥

-- What is being loaded of a sender before and after a record of it, and the message that is whole by
-- it, if one is. What is being loaded of a client is dropped with a record of it.
abbrev pub Comes : ℕ → Process → LinkRecord → Option ArrivingView → Option ArrivingView → Option TreeMessage → Type 0
Comes own from r old new came =
    Accepts (Server own) from r old new came ⊎ (IsDropped own from r old × (new ≡ None) × (came ≡ None))

-- A record of a link came. The server handles the message that is whole by it, if one is. The
-- master has no link.
pub record Receives (v : NodeView) (from : Process) (r : LinkRecord) (w : NodeView) : Type 0 where
  pub own : ℕ
  pub is_own : v.replica.own ≡ Some own
  pub peer : from ≢ Master
  pub came : Option TreeMessage
  pub comes : Comes own from r (arriving_from v.incoming from) (arriving_from w.incoming from) came
  pub others : OthersArrive v.incoming w.incoming from
  pub heard : HearsAny own from came v.seat w.seat
  pub rest : w ≡ record v { incoming = w.incoming; seat = w.seat }

-- a connection has ended: what is being loaded of its sender is dropped
pub record Forgets (v : NodeView) (from : Process) (w : NodeView) : Type 0 where
  pub none : arriving_from w.incoming from ≡ None
  pub others : OthersArrive v.incoming w.incoming from
  pub rest : w ≡ record v { incoming = w.incoming }

-- ---- links that are lost

-- this is the report that the server is gone
abbrev pub is_accusation : ℕ → News → Bool
is_accusation s (news.Have epoch last) = false
is_accusation s (news.Joined epoch) = false
is_accusation s (news.Gone t) = t == s

abbrev pub accuses : ℕ → List News → Bool
accuses s reports = list_any (is_accusation s) reports

-- A node reports a server as gone only if its own server is a live member with the state, and the
-- other one is live; and once.
abbrev pub may_accuse : NodeView → ℕ → Bool
may_accuse v s =
    is_some v.replica.own && not (has_ended v) && v.seat.has_state && has_live v.replica.state s
    && not (accuses s v.seat.reports)

abbrev pub accusing : NodeView → ℕ → List News
accusing v s = if may_accuse v s then v.seat.reports ++ news.Gone s ∷ [] else v.seat.reports

-- what waits for the server is dropped, and it is reported as gone if the node may do so
pub record Loses (v : NodeView) (s : ℕ) (w : NodeView) : Type 0 where
  pub none : waiting_for w.seat.outgoing (Server s) ≡ []
  pub others : OthersWait v.seat.outgoing w.seat.outgoing (Server s)
  pub rest : w ≡ record v { seat = record v.seat { reports = accusing v s; outgoing = w.seat.outgoing } }

-- ---- an input

-- the node takes an input, and these are its outputs: there are none but at a turn
abbrev pub Takes : NodeView → InputView → List OutputView → NodeView → Type 0
Takes v (Entry index bytes) outputs w = (outputs ≡ []) × Plays v index bytes w
Takes v CaughtUp outputs w = (outputs ≡ []) × (w ≡ record v { is_at_end = true })
Takes v (Link from r) outputs w = (outputs ≡ []) × Receives v from r w
Takes v (Lost s) outputs w = (outputs ≡ []) × Loses v s w
Takes v Turn outputs w = Answers v outputs w
Takes v (Ended from) outputs w = (outputs ≡ []) × Forgets v from w

-- ---- faults

-- the node has a server, and this is so of its number
abbrev pub OfServer : NodeView → (ℕ → Type 0) → Type 0
OfServer v it = (own : ℕ) × (v.replica.own ≡ Some own) × it own

-- why a node takes no such input: a refused record ends it only if a server sent it
abbrev pub IsNodeFault : NodeView → InputView → NodeFault → Type 0
IsNodeFault v input fault.Memory = Unit {0}
IsNodeFault v (Entry index bytes) fault.Order = (index ≢ v.replica.played) ⊎ (index ≡ MAX_ENTRIES)
IsNodeFault v (Entry index bytes) fault.Entry =
    (index ≡ v.replica.played) × (it : Fault) × (whole entry bytes ≡ Err it)
IsNodeFault v (Link from r) fault.NoServer = v.replica.own ≡ None
IsNodeFault v (Link from r) fault.Master = from ≡ Master
IsNodeFault v (Link (Server s) r) (fault.Peer it) =
    OfServer v (λ own. IsPeerFault (Server own) (Server s) r (arriving_from v.incoming (Server s)) it)
IsNodeFault v Turn fault.TooLong = OfServer v (λ own. HasLong own v.seat.outgoing)
IsNodeFault v input it = ⊥
