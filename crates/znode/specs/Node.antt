-- A node: its replica of the master, and its server with what it has put.
use Rattle.std.specs.Prelude.{◌≡◌, ℕ, Bool, false, not, ◌&&◌, is_some, Option, None, Some, List, []}
use Rattle.zprotocol.specs.declared.process.Process.{Process}
use Rattle.zprotocol.specs.server.View.{spare}
use Rattle.zprotocol.specs.world.Does.{AtServer}
use Rattle.zactor.specs.Acting.{TreeStanding}
use Rattle.zmaster_log.specs.declared.entry.News.{News}
use Rattle.zmaster_log.specs.Log.{ReplicaView, State, has_live}
use Rattle.zpeers.specs.Incoming.{IncomingView, arriving_from}
use Rattle.zpeers.specs.Outgoing.{OutgoingView, waiting_for}
use Rattle.znode.specs.declared.status.NodeStatus.{NodeStatus}

-- The server: its standing, whether it has the state, its reports that aren't in the log yet, and
-- what waits to be sent.
pub record SeatView : Type 0 where
  pub standing : TreeStanding
  pub has_state : Bool
  pub reports : List News
  pub outgoing : OutgoingView

-- The node's name, and whether it may open an empty log; whether it has read all of the log that
-- there was, and the bytes that it has asked to be appended next; the replica, what is being
-- received, the server, and the status that the host knows.
pub record NodeView : Type 0 where
  pub name : List ℕ
  pub opens : Bool
  pub is_at_end : Bool
  pub asked : Option (List ℕ)
  pub replica : ReplicaView
  pub incoming : IncomingView
  pub seat : SeatView
  pub known : Option NodeStatus

-- the server with this number was live, and isn't any more, by the log
abbrev pub is_out : Option ℕ → State → Bool
is_out None state = false
is_out (Some s) state = not (has_live state s)

-- the node has ended: its server is gone, by the log
abbrev pub has_ended : NodeView → Bool
has_ended v = is_out v.replica.own v.replica.state

abbrev pub status_of : NodeView → NodeStatus
status_of v = record {
  own = v.replica.own;
  is_live = is_some v.replica.own && not (has_ended v);
  has_state = v.seat.has_state;
}

-- a node that has read nothing: its server has no state, and has received nothing
pub record IsNew (name : List ℕ) (opens : Bool) (v : NodeView) : Type 0 where
  pub incoming : (from : Process) → arriving_from v.incoming from ≡ None
  pub outgoing : (to : Process) → waiting_for v.seat.outgoing to ≡ []
  pub rest : v ≡ record {
    name = name;
    opens = opens;
    is_at_end = false;
    asked = None;
    replica = record { own = None; played = 0; state = None };
    incoming = v.incoming;
    seat = record { standing = AtServer spare; has_state = false; reports = []; outgoing = v.seat.outgoing };
    known = None;
  }
