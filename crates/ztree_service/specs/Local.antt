-- What a contract sees of a tree in memory.
use Rattle.std.specs.Prelude.{Bool}
use Rattle.ztree.specs.Tree.{Tree}

-- the tree, and whether memory ran out; after that every call fails
pub record LocalTreeView : Type 0 where
  pub tree : Tree
  pub is_broken : Bool
