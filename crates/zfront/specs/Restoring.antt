-- A front begins with a tree: a new one, or that of an earlier incarnation. It has no connection,
-- and all sessions of the tree, without connections. The limits of watches are chosen. The source is
-- the ZooKeeper Programmer's Guide, "ZooKeeper Sessions". Beginning with a given tree, and the limits,
-- are this project's profile.
use Rattle.std.specs.Prelude.{ℕ, Bool, List, [], ◌∷◌}
use Rattle.std.specs.FinMap as finite
use Rattle.std.specs.FinSet as sets
use Rattle.ztree.specs.Tree.{Tree}
use Rattle.zresponses.specs.declared.clock.Clock.{Clock}
use Rattle.zwatches.specs.declared.limits.WatchLimits.{WatchLimits}
use Rattle.zconnections.specs.attachments.Attachments.{AttachmentsView, restored_attachment}
use Rattle.zconnections.specs.Tables.{TablesView}
use Rattle.zfront.specs.Front.{FrontView}

-- these sessions are added, without a connection
abbrev pub seated : List ℕ → AttachmentsView → AttachmentsView
seated [] m = m
seated (session ∷ sessions) m = seated sessions (finite.insert m session restored_attachment)

-- empty tables, with these limits
abbrev pub no_tables : WatchLimits → TablesView
no_tables limits = record {
  streams = finite.empty;
  attachments = finite.empty;
  watches = sets.empty;
  limits = limits;
  unsent = [];
}

-- tables with these sessions
abbrev pub tables_of : WatchLimits → List ℕ → TablesView
tables_of limits sessions = record (no_tables limits) { attachments = seated sessions finite.empty }

-- a front that begins with this tree
abbrev pub beginning : WatchLimits → Tree → List ℕ → Clock → Bool → FrontView
beginning limits t secret times is_kept = record {
  tree = t;
  tables = tables_of limits (finite.keys t.sessions);
  is_kept = is_kept;
  made = [];
  secret = secret;
  clock = times;
}

-- all recorded updates are taken
abbrev pub all_taken : FrontView → FrontView
all_taken v = record v { made = [] }
