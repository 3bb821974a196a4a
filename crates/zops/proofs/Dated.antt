-- No node of a machine's tree is of a later change or tick.
use Rattle.std.proofs.Common.{ℕ, Bool, true, false, if◌then◌else◌, Option, sym, subst, arith}
use Rattle.std.specs.Prelude.{nat_lt}
use Rattle.std.specs.FinMap.{get}
use Rattle.ztree.specs.declared.limits.TreeLimits.{TreeLimits}
use Rattle.ztree.specs.Tree.{Tree, opening_within}
use Rattle.zcalls.specs.declared.call.Entry.{Entry}
use Rattle.zcalls.specs.declared.call.Update.{Update}
use Rattle.zcalls.specs.declared.reply.Reply.{Reply}
use Rattle.zcalls.specs.Cached.{CachedState, last_of, cached_reply, act_result, entry_step}
use Rattle.zcalls.specs.Step.{step}
use Rattle.zcalls.proofs.Zxids.{IsSettled, step-settled, opening-settled}
use Rattle.zstore.specs.StoreView.{StoreView}
use Rattle.zops.specs.Restored.{AllDated}
use Rattle.zops.specs.support.Steps.{Replies, IsEntered}

dated : (t : Tree) → IsSettled t → AllDated t
dated t is path n e =
    let old = is path n e in
    record {
      czxid = omega (arith, old.older.czxid);
      mzxid = omega (arith, old.older.mzxid);
      pzxid = omega (arith, old.older.pzxid);
      ctime = old.ctime;
      mtime = old.mtime;
    }

settled : (t : Tree) → AllDated t → IsSettled t
settled t is path n e =
    let old = is path n e in
    record {
      older = record {
        czxid = omega (arith, old.czxid);
        mzxid = omega (arith, old.mzxid);
        pzxid = omega (arith, old.pzxid);
      };
      ctime = old.ctime;
      mtime = old.mtime;
    }

pub opening-dated : (limits : TreeLimits) → AllDated (opening_within limits)
opening-dated limits = dated (opening_within limits) (opening-settled limits)

step-dated : (t : Tree) (client : ℕ) (update : Update) → AllDated t → AllDated (step t client update).0
step-dated t client update is = dated (step t client update).0 (step-settled t client update (settled t is))

-- a choice of two outcomes
either : (b : Bool) (did was : CachedState Tree × Option Reply) → AllDated did.0.plain → AllDated was.0.plain → AllDated (if b then did else was).0.plain
either true did was done is = done
either false did was done is = is

entry-dated : (s : CachedState Tree) (entry : Entry) → AllDated s.plain → AllDated (entry_step step s entry).0.plain
unfolding entry_step
entry-dated s entry is =
    either (nat_lt (last_of (get s.kept entry.client)) entry.number) (act_result step s entry)
    (s, cached_reply entry.number (get s.kept entry.client)) (step-dated s.plain entry.client entry.update is) is

-- an entry that was applied
pub entered-dated : (entry : Entry) (old new : StoreView) (kept_old kept_new : Replies) (reply : Option Reply) →
    IsEntered entry old kept_old new kept_new reply → AllDated old.tree → AllDated new.tree
entered-dated entry old new kept_old kept_new reply did is =
    subst (λ (s : CachedState Tree × Option Reply). AllDated s.0.plain) (sym did)
    (entry-dated (record { plain = old.tree; kept = kept_old }) entry is)
