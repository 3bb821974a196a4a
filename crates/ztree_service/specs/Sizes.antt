-- What is told of a tree: its size in numbers, and the nodes of a session. The source is the
-- ZooKeeper Administrator's Guide, "The Four Letter Words" (mntr).
use Rattle.std.specs.Prelude.{ℕ, List, [], is_some, if◌then◌else◌}
use Rattle.std.specs.FinMap as finite
use Rattle.ztree.specs.Counts.{owned_count, data_count}
use Rattle.ztree.specs.Tree.{Tree, Path, ephemerals}
use Rattle.ztree_service.specs.declared.counts.Counts.{Counts}

-- the size of a tree
abbrev pub counts_of : Tree → Counts
counts_of t = record {
  nodes = finite.len t.nodes;
  sessions = finite.len t.sessions;
  owned = owned_count t.nodes;
  bytes = data_count t.nodes;
}

-- the paths of the nodes that a session owns, in order; a session that the tree doesn't have owns
-- none
abbrev pub owned_by : Tree → ℕ → List Path
owned_by t session = if is_some (finite.get t.sessions session) then ephemerals t.nodes session else []
