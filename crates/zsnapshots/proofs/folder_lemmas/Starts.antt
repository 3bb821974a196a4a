-- A service can begin with a tree that is stored.
use Rattle.std.proofs.Common.{ℕ, List, [], inl, inr, sym, subst, ◌∙◌, arith}
use Rattle.ztree.specs.Limits.{AreLimits, profile}
use Rattle.ztree.specs.Tree.{Tree}
use Rattle.zcalls.proofs.LawfulCalls.{after-good}
use Rattle.zprotocol.specs.world.FromTree.{CanStart}
use Rattle.ztree_service.proofs.log_lemmas.Incarnations.{trees_can_start_again}
use Rattle.zsnapshots.specs.folder.Entries.{calls_again}
use Rattle.zsnapshots.specs.folder.Laws.{KeptTreesCanStart}
use Rattle.zsnapshots.specs.folder.Texts.{IsFrontOf}
use Rattle.zsnapshots.proofs.folder_lemmas.States.{trees}

profile_is : AreLimits profile
profile_is = record {
  some_nodes = omega arith;
  few_nodes = omega arith;
  few_sessions = omega arith;
  least_timeout = omega arith;
  most_timeout = omega arith;
}

start_can : (t : Tree) (front : List ℕ) → IsFrontOf t front → CanStart t
start_can t front (inl bare) =
    let good = after-good profile profile_is [] in
    subst CanStart (sym bare.0) (record { lawful = good.0; granted = good.1 })
start_can t front (inr snapshot) =
    let settled = snapshot.0.readable.settled in
    record { lawful = settled.lawful; granted = settled.bounded.sessions }

pub can_start : KeptTreesCanStart
can_start t text is =
    let first = start_can is.start is.front is.begins in
    subst CanStart (sym (is.leaves ∙ trees is.start is.entries)) (trees_can_start_again is.start (calls_again is.entries) first)
