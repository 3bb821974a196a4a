-- The plain tree as a sequential service: the sequential specification. The source is the ZooKeeper
-- Programmer's Guide, "The ZooKeeper Data Model".
use Rattle.ztree.specs.Tree.{Tree, opening_tree}
use Rattle.zcalls.specs.Cached.{Plain}
use Rattle.zcalls.specs.Step.{step, query_reply}

-- it starts with the root alone, does an update by `step`, and answers a query from the tree
abbrev pub plain_tree : Plain Tree
plain_tree = record { opening = opening_tree; update = step; ask = query_reply }
