-- Samples for the worked rows.
use Rattle.ztree.specs.declared.term.Term.TheVariants.{Unlimited, Container}
use Rattle.ztree.specs.declared.node.Node.{Node}
use Rattle.ztree.specs.Limits.{profile}
use Rattle.ztree.specs.Tree.{Tree}
use Rattle.ztree.specs.support.Samples.{at_a, some_node, some_session}
use Rattle.zstore.specs.Restored.{rooted_tree, with_row, with_session_row}

-- a node without an end, one that ends with session 9, and one that ends by its TTL; `some_node` has both ends
abbrev pub plain : Node
plain = record some_node { owner = 0; term = Unlimited }

abbrev pub ephemeral : Node
ephemeral = record some_node { term = Unlimited }

abbrev pub timed : Node
timed = record some_node { owner = 0 }

-- a container of that session
abbrev pub owned_container : Node
owned_container = record some_node { term = Container }

-- the root and session 9, at tick 8 and after change 40
abbrev pub rooted : Tree
rooted = with_session_row (rooted_tree plain 8 40 profile) 9 some_session

-- the same with an ephemeral of that session
abbrev pub with_ephemeral : Tree
with_ephemeral = with_row rooted at_a ephemeral
