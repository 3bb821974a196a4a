-- What counting or writing one more node does.
use Rattle.std.specs.Prelude.{ℕ, List, ◌+◌, ◌≤◌, ◌^◌, length, nat_lt, if◌then◌else◌}
use Rattle.std.specs.List.{flat_map}
use Rattle.ztree.specs.declared.node.Node.{Node}
use Rattle.ztree.specs.Tree.{Path}
use Rattle.zcalls.specs.Part.{is_owned}
use Rattle.zsnapshots.specs.declared.export.tally.TreeCounts.{TreeCounts}
use Rattle.zsnapshots.specs.export.Export.{ended, lines_for}

-- the lines of one node, with their ends
abbrev pub text_for : Path → Node → List ℕ
text_for path n = flat_map ended (lines_for (path, n))

-- the counts with one more node, but for the number of nodes
abbrev pub counted : Node → TreeCounts → TreeCounts
counted n c = record c {
  bytes = c.bytes + length n.bytes;
  ephemerals = c.ephemerals + (if is_owned n then 1 else 0);
  counters = c.counters + (if nat_lt 0 n.seq then 1 else 0);
}

-- each of them can rise
pub record HasRoom (c : TreeCounts) : Type 0 where
  pub bytes : c.bytes ≤ 2 ^ 41
  pub ephemerals : c.ephemerals ≤ 2 ^ 40
  pub counters : c.counters ≤ 2 ^ 40
