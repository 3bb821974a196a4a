-- The counts of a tree.
use Rattle.std.specs.Prelude.{ℕ, Bool, length, nat_lt}
use Rattle.std.specs.List.{count_by, sum_by}
use Rattle.std.specs.FinMap as finite
use Rattle.std.specs.FinMap.{entries}
use Rattle.ztree.specs.declared.node.Node.{Node}
use Rattle.ztree.specs.Tree.{Path, Tree}
use Rattle.zcalls.specs.Part.{is_owned}
use Rattle.zsnapshots.specs.declared.export.tally.TreeCounts.{TreeCounts}

-- the bytes of a node's data
abbrev pub bytes_of : Path × Node → ℕ
bytes_of e = length e.1.bytes

-- a session owns the node
abbrev pub is_ephemeral : Path × Node → Bool
is_ephemeral e = is_owned e.1

-- the node gave a number to a sequential name beneath it
abbrev pub has_counted : Path × Node → Bool
has_counted e = nat_lt 0 e.1.seq

-- The root counts as a node. The changes are the last zxid.
abbrev pub counts_of : Tree → TreeCounts
counts_of t = record {
  nodes = finite.len t.nodes;
  bytes = sum_by bytes_of (entries t.nodes);
  ephemerals = count_by is_ephemeral (entries t.nodes);
  counters = count_by has_counted (entries t.nodes);
  sessions = finite.len t.sessions;
  changes = t.zxid;
  ticks = t.time;
}
