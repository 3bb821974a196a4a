-- Logs of incarnations, one after the other: each begins with the tree that the one before left.
-- Incarnations are this project's profile.
use Rattle.std.specs.Prelude.{◌≡◌, List, [], ◌∷◌, ◌++◌}
use Rattle.ztree.specs.Tree.{Tree, opening_tree}
use Rattle.zcalls.specs.declared.call.Call.{Call}
use Rattle.zprotocol.specs.world.FromTree.{CanStart}
use Rattle.ztree_service.specs.log.Logs.{Log, calls_of, tree_after, IsOneTrees, IsOneTreesFrom}

-- the logs of successive incarnations, from this tree on
abbrev pub AreIncarnationsFrom : Tree → List Log → Type 0
AreIncarnationsFrom t [] = Unit {0}
AreIncarnationsFrom t (log ∷ logs) = IsOneTreesFrom t log × AreIncarnationsFrom (tree_after t (calls_of log)) logs

-- all of them as one log
abbrev pub whole : List Log → Log
whole [] = []
whole (log ∷ logs) = log ++ whole logs

-- ---- laws: the functions of `src/laws.rt` promise them

-- the replies of all incarnations are those of one plain tree, as if it had never stopped
abbrev pub IncarnationsAreOneTrees : Type 0
IncarnationsAreOneTrees = (logs : List Log) → AreIncarnationsFrom opening_tree logs → IsOneTrees (whole logs)

-- the same from any tree on
abbrev pub IncarnationsAreOneTreesFrom : Type 0
IncarnationsAreOneTreesFrom = (t : Tree) (logs : List Log) → AreIncarnationsFrom t logs → IsOneTreesFrom t (whole logs)

-- two incarnations leave the tree that a single one leaves
abbrev pub IncarnationsLeaveOneTree : Type 0
IncarnationsLeaveOneTree =
    (t : Tree) (first second : Log) → tree_after t (calls_of (first ++ second)) ≡ tree_after (tree_after t (calls_of first)) (calls_of second)

-- and a service can begin with that tree
abbrev pub TreesCanStartAgain : Type 0
TreesCanStartAgain = (t : Tree) (calls : List Call) → CanStart t → CanStart (tree_after t calls)
