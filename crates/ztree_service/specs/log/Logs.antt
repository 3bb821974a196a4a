-- A log of the calls that a tree served, in order, each with its reply. Herlihy and Wing,
-- "Linearizability: A Correctness Condition for Concurrent Objects" (TOPLAS 1990), section 2: a
-- history of one process is sequential.
use Rattle.std.specs.Prelude.{◌≡◌, List, [], ◌∷◌, map}
use Rattle.ztree.specs.Tree.{Tree, opening_tree}
use Rattle.zcalls.specs.declared.call.Call.{Call}
use Rattle.zcalls.specs.declared.reply.Reply.{Reply}
use Rattle.zprotocol.specs.world.PlainTree.{serve}

-- the calls that were answered, in order, each with its reply
abbrev pub Log : Type 0
Log = List (Call × Reply)

-- the calls of a log, and its replies
abbrev pub calls_of : Log → List Call
calls_of log = map (λ reported. reported.0) log

abbrev pub replies_of : Log → List Reply
replies_of log = map (λ reported. reported.1) log

-- the replies of a tree that serves these calls of client 0 in order
abbrev pub served : Tree → List Call → List Reply
served t [] = []
served t (call ∷ calls) = (serve t 0 call).1 ∷ served (serve t 0 call).0 calls

-- the tree after these calls
abbrev pub tree_after : Tree → List Call → Tree
tree_after t [] = t
tree_after t (call ∷ calls) = tree_after (serve t 0 call).0 calls

-- the replies of the log are those of one plain tree that begins with this tree
abbrev pub IsOneTreesFrom : Tree → Log → Type 0
IsOneTreesFrom t log = replies_of log ≡ served t (calls_of log)

-- the same from the initial tree
abbrev pub IsOneTrees : Log → Type 0
IsOneTrees log = IsOneTreesFrom opening_tree log

-- the log is one tree's, from the first tree to the second
abbrev pub Leads : Tree → Log → Tree → Type 0
Leads t log after = IsOneTreesFrom t log × (tree_after t (calls_of log) ≡ after)

-- the same from the initial tree
abbrev pub Leaves : Log → Tree → Type 0
Leaves log after = Leads opening_tree log after
