use Rattle.std.proofs.Common.{◌≡◌, ◌+◌, ◌*◌, ◌≤◌, length, drop}
use Rattle.zcalls.specs.declared.limits.TheConstants.{MAX_RAISES}
use Rattle.zcalls.specs.Bounds.{IsWithin}
use Rattle.zcalls.specs.support.Alone.{ChangesNodesAlone}
use Rattle.zcalls.specs.Multi.{run}
use Rattle.zcalls.proofs.Runs.{behind_all}
use Rattle.ztree.specs.Lawful.{AllNodes}
use Rattle.zstore.specs.StoreView.{Mark}
use Rattle.zops.specs.support.Ready.{HasMark}
use Rattle.zops.proofs.run.run.Given as goal

abbrev pub invariant-loop-wanted : goal.invariant-loop-wanted
invariant-loop-wanted l = record {
  ran : run l.initial.store.tree l.fn.client l.parts ≡ behind_all l.replies.items (run l.store.tree l.fn.client (drop l.wanted-index l.parts));
  within : AllNodes (IsWithin (MAX_RAISES * l.initial.store.tree.zxid + length l.replies.items)) l.store.tree.nodes;
  stays : ChangesNodesAlone l.initial.store.tree l.store.tree;
  count : length l.replies.items + length (drop l.wanted-index l.parts) ≡ length l.parts;
  given : l.store.given ≤ l.initial.store.given + length l.replies.items;
  mark : (m : Mark) → HasMark (length l.parts) m l.initial.store → HasMark (length (drop l.wanted-index l.parts)) m l.store;
}
