use Rattle.std.proofs.Common.{◌≡◌, [], ◌∷◌, refl}
use Rattle.ztree.specs.Tree.{opening_tree}
use Rattle.zcalls.specs.declared.call.Call.{Call}
use Rattle.zcalls.specs.declared.reply.Reply.{Reply}
use Rattle.zprotocol.specs.world.PlainTree.{serve}
use Rattle.ztree_service.proofs.log.rows.logs_of_one_tree.Goals as goal

-- the only reply of two lists is the same
only_reply : (a : Call) (r : Reply) → r ∷ [] ≡ (serve opening_tree 0 a).1 ∷ [] → r ≡ (serve opening_tree 0 a).1
only_reply a r is = cc is

pub returns : goal.returns
returns c = record { nothing = refl; left = (refl, refl); second = λ a b. refl; no_other = only_reply; after = λ a b. refl }
