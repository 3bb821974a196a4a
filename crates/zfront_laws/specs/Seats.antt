-- The connection that has a session is the one that the session is attached to, so no two
-- connections have the same session. The source is the ZooKeeper Programmer's Guide, "ZooKeeper
-- Sessions".
use Rattle.std.specs.Prelude.{◌≡◌, ℕ, Bool, List, None, Some}
use Rattle.ztree.specs.Tree.{Tree}
use Rattle.zwatches.specs.declared.changes.event.Event.{Event}
use Rattle.zresponses.specs.declared.clock.Clock.{Clock}
use Rattle.zconnections.specs.declared.buffers.phase.Phase.TheVariants.{Speaking}
use Rattle.zconnections.specs.buffers.Streams.{phase_of}
use Rattle.zprotocol.specs.world.FromTree.{CanStart}
use Rattle.zconnections.specs.Tables.{TablesView, connection_of, closed, ended, sent, attachment, taken_up}
use Rattle.zconnections.specs.Sweeping.{swept_all}
use Rattle.zconnections.specs.Reporting.{reported_all}
use Rattle.zwatches.specs.declared.limits.WatchLimits.{WatchLimits}
use Rattle.zfront.specs.Front.{FrontView}
use Rattle.zfront.specs.Restoring.{beginning}
use Rattle.zfront_laws.specs.Runs.{Step, Runs}

-- for each connection that has a session, this session is attached to it
abbrev pub IsSeated : TablesView → Type 0
IsSeated t = (c session : ℕ) → phase_of t.streams c ≡ Some (Speaking session) → connection_of t.attachments session ≡ Some c

-- so no two connections have the same session
abbrev pub OneSpeaks : Type 0
OneSpeaks =
    (t : TablesView) (c d session : ℕ) → IsSeated t → phase_of t.streams c ≡ Some (Speaking session)
    → phase_of t.streams d ≡ Some (Speaking session) → c ≡ d

-- the change preserves this
abbrev pub Seats : (TablesView → TablesView) → TablesView → Type 0
Seats change t = IsSeated t → IsSeated (change t)

-- these changes: a connection is closed or ends, bytes are queued, events are sent, sessions are
-- removed, a session is attached, and a session without a connection is opened
pub record SeatsAreKept : Type 0 where
  pub closed : (c : ℕ) (t : TablesView) → Seats (closed c) t
  pub ended : (c : ℕ) (t : TablesView) → Seats (ended c) t
  pub sent : (c : ℕ) (bytes : List ℕ) (t : TablesView) → Seats (sent c bytes) t
  pub reported : (events : List Event) (t : TablesView) → Seats (reported_all events) t
  pub swept : (sessions : List ℕ) (t : TablesView) → Seats (swept_all sessions) t
  pub taken_up : (session c : ℕ) (t : TablesView) → Seats (taken_up session c) t
  pub opened : (session c : ℕ) (t : TablesView) → connection_of t.attachments session ≡ None → Seats (attachment session c) t

-- it holds of every front, whatever its steps, if a service can begin with the first tree
abbrev pub EveryFrontIsSeated : Type 0
EveryFrontIsSeated =
    (limits : WatchLimits) (t : Tree) (secret : List ℕ) (times : Clock) (is_kept : Bool) (steps : List Step) (v : FrontView)
    → CanStart t → Runs steps (beginning limits t secret times is_kept) v → IsSeated v.tables
