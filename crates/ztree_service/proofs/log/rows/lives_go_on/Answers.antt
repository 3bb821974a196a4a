use Rattle.std.proofs.Common.{◌≡◌, [], ◌∷◌, refl}
use Rattle.ztree.specs.Tree.{Tree}
use Rattle.zcalls.specs.declared.call.Call.{Call}
use Rattle.zcalls.specs.declared.reply.Reply.{Reply}
use Rattle.zprotocol.specs.world.PlainTree.{serve}
use Rattle.ztree_service.proofs.log.rows.lives_go_on.Goals as goal

-- the only reply of two lists is the same
only_reply : (t : Tree) (a : Call) (r : Reply) → r ∷ [] ≡ (serve t 0 a).1 ∷ [] → r ≡ (serve t 0 a).1
only_reply t a r is = cc is

pub returns : goal.returns
returns c = record {
  none = λ t. tt;
  two = λ a b. (refl, (refl, tt));
  no_other = only_reply;
  in_order = λ a b r s. refl;
  no_other_later = λ t a b r s are. only_reply (serve t 0 a).0 b s are.1.0;
}
