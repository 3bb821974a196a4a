-- What a server tells of the size of its tree: the number of ephemerals, and the bytes of data. The
-- source is the ZooKeeper Administrator's Guide, "The Four Letter Words" (mntr).
use Rattle.std.specs.Prelude.{ℕ, ◌+◌, ◌==◌, List, [], ◌∷◌, if◌then◌else◌, length}
use Rattle.std.specs.FinMap.{entries}
use Rattle.ztree.specs.declared.node.Node.{Node}
use Rattle.ztree.specs.Tree.{Path, Nodes}

-- the sum of a number of each node
abbrev pub sum_of : (Node → ℕ) → List (Path × Node) → ℕ
sum_of f [] = 0
sum_of f (e ∷ es) = f e.1 + sum_of f es

-- 1 where a session owns the node, else 0
abbrev pub one_if_owned : Node → ℕ
one_if_owned n = if n.owner == 0 then 0 else 1

-- the size of the node's data
abbrev pub size_of : Node → ℕ
size_of n = length n.bytes

-- the number of nodes that sessions own
abbrev pub owned_count : Nodes → ℕ
owned_count nodes = sum_of one_if_owned (entries nodes)

-- the bytes of the data of all nodes
abbrev pub data_count : Nodes → ℕ
data_count nodes = sum_of size_of (entries nodes)
