-- A log with one more call.
use Rattle.std.proofs.Common.{◌≡◌, List, [], ◌∷◌, ◌++◌, refl}
use Rattle.ztree.specs.Tree.{Tree}
use Rattle.zcalls.specs.declared.call.Call.{Call}
use Rattle.zcalls.specs.declared.reply.Reply.{Reply}
use Rattle.zprotocol.specs.world.PlainTree.{serve}
use Rattle.ztree_service.specs.log.Logs.{Log, calls_of, replies_of, served, tree_after}

-- what follows the first of two lists that are the same
rest_of : (r s : Reply) (rs ss : List Reply) → r ∷ rs ≡ s ∷ ss → rs ≡ ss
rest_of r s rs ss e = cc e

-- the last reply is that of the tree after the calls before it
pub last_reply : (log : Log) (t : Tree) (call : Call) (reply : Reply)
    → replies_of (log ++ (call, reply) ∷ []) ≡ served t (calls_of (log ++ (call, reply) ∷ []))
    → reply ≡ (serve (tree_after t (calls_of log)) 0 call).1
last_reply [] t call reply is = cc is
last_reply (reported ∷ log) t call reply is =
    last_reply log (serve t 0 reported.0).0 call reply
    (rest_of reported.1 (serve t 0 reported.0).1 (replies_of (log ++ (call, reply) ∷ []))
    (served (serve t 0 reported.0).0 (calls_of (log ++ (call, reply) ∷ []))) is)

-- and the tree after it is the one that it leaves
pub last_tree : (log : Log) (t : Tree) (call : Call) (reply : Reply)
    → tree_after t (calls_of (log ++ (call, reply) ∷ [])) ≡ (serve (tree_after t (calls_of log)) 0 call).0
last_tree [] t call reply = refl
last_tree (reported ∷ log) t call reply = last_tree log (serve t 0 reported.0).0 call reply
