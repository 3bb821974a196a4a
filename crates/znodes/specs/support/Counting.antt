-- What is counted of the nodes, and how the counts change with them.
use Rattle.std.specs.Prelude.{◌≡◌, ◌+◌, ◌-◌, ◌≤◌, ℕ, List, length}
use Rattle.ztree.specs.declared.limits.TheConstants.{MOST_DATA}
use Rattle.ztree.specs.declared.node.Node.{Node}
use Rattle.ztree.specs.Tree.{Nodes}
use Rattle.ztree.specs.Lawful.{AllNodes}
use Rattle.ztree.specs.Counts.{one_if_owned, size_of, owned_count, data_count}
use Rattle.znodes.specs.declared.counts.Counts.{Counts}

-- the counts of no nodes
abbrev pub no_counts : Counts
no_counts = record { owned = 0; bytes = 0 }

-- the counts with one more node
abbrev pub counts_with : Counts → Node → Counts
counts_with c n = record { owned = c.owned + one_if_owned n; bytes = c.bytes + size_of n }

-- the counts with one node less
abbrev pub counts_without : Counts → Node → Counts
counts_without c n = record { owned = c.owned - one_if_owned n; bytes = c.bytes - size_of n }

-- the counts where a node has other data
abbrev pub counts_changed : Counts → List ℕ → List ℕ → Counts
counts_changed c before after = record c { bytes = c.bytes - length before + length after }

-- the node has no more data than one can have
abbrev pub IsSmall : Node → Type 0
IsSmall n = size_of n ≤ MOST_DATA

-- the counts are those of the nodes, and no node has more data than one can have
pub record AreCounts (nodes : Nodes) (c : Counts) : Type 0 where
  pub owned : c.owned ≡ owned_count nodes
  pub bytes : c.bytes ≡ data_count nodes
  pub small : AllNodes IsSmall nodes
