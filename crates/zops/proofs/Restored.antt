-- The invariant of a machine while it is built of another one's rows.
use Rattle.std.proofs.Common.{◌≡◌, ℕ, ◌+◌, ◌*◌, ◌≤◌, [], Ok, Err, Result, sym, ap, subst, cond, ◌∙◌, arith}
use Rattle.std.specs.Prelude.{is_some, OnOk, OnErr}
use Rattle.std.specs.Ordering.{nat_cmp}
use Rattle.std.specs.FinMap as finite
use Rattle.std.specs.FinMap.{get-empty, len-empty, len-insert}
use Rattle.zpath.specs.Grammar.{path_cmp}
use Rattle.ztree.specs.declared.limits.TreeLimits.{TreeLimits}
use Rattle.ztree.specs.declared.node.Node.{Node}
use Rattle.ztree.specs.declared.session.Session.{Session}
use Rattle.ztree.specs.Tree.{Tree, Path}
use Rattle.ztree.specs.Lawful.{AllNodes}
use Rattle.ztree.proofs.Sorted.{paths_total}
use Rattle.ztree.proofs.Maps.{none_some}
use Rattle.zstore.specs.StoreView.{StoreView}
use Rattle.zstore.specs.declared.restore_fault.RestoreFault.{RestoreFault}
use Rattle.zstore.specs.Restored.{rooted_tree, with_row, with_session_row, CanPut}
use Rattle.zcalls.specs.declared.limits.TheConstants.{MAX_RAISES}
use Rattle.zcalls.specs.Bounds.{IsWithin, IsGranted, IsBounded}
use Rattle.zcalls.proofs.Bounds.{all_insert}
use Rattle.zcalls.proofs.Timed.{put-granted}
use Rattle.zops.specs.Restored.{IsDated, AllDated, CanBegin}
use Rattle.zops.specs.support.Ready.{IsRestoring}

no_nodes : (P : Node → Type 0) → AllNodes P finite.empty
no_nodes P q n e = absurd (none_some n (sym (get-empty path_cmp q) ∙ e))

-- the root alone
pub restoring_root : (store : StoreView) (root : Node) (time zxid applied : ℕ) (limits : TreeLimits) →
    CanBegin root time zxid applied limits → store.tree ≡ rooted_tree root time zxid limits →
    store.given ≤ 1 → IsRestoring store applied
restoring_root store root time zxid applied limits can is given =
    let bounded : IsBounded (rooted_tree root time zxid limits) = record {
      zxid = can.zxid_few;
      time = can.time_few;
      counters = all_insert (IsWithin (MAX_RAISES * zxid)) finite.empty [] root
          (no_nodes (IsWithin (MAX_RAISES * zxid))) can.within;
      sessions = λ id s e. absurd (none_some s (sym (get-empty nat_cmp id) ∙ e));
    } in
    let one = len-insert paths_total finite.empty [] root
    ∙ ap (λ b. cond b (finite.len (finite.empty {X = Node} {R = path_cmp})) (finite.len (finite.empty {X = Node} {R = path_cmp}) + 1))
    (ap is_some (get-empty path_cmp []))
    ∙ ap (λ n. n + 1) (len-empty path_cmp Node) in
    let here = ap (λ (t : Tree). finite.len t.nodes) is ∙ one in
    record {
      bounded = subst IsBounded (sym is) bounded;
      applied_few = can.applied_few;
      given_few = omega (arith, here, given);
      dated = subst AllDated (sym is) (all_insert (IsDated zxid time) finite.empty [] root
          (no_nodes (IsDated zxid time)) can.dated);
    }

-- a node put, or refused
pub restoring_node : (old new : StoreView) (applied : ℕ) (path : Path) (n : Node)
    (result : Result (Unit {0}) RestoreFault) → IsRestoring old applied →
    IsWithin (MAX_RAISES * old.tree.zxid) n → IsDated old.tree.zxid old.tree.time n →
    OnOk result (new.tree ≡ with_row old.tree path n) →
    OnOk result (new.given ≡ old.given + 1) → OnOk result (CanPut old.tree path n) →
    OnErr result (new ≡ old) → IsRestoring new applied
restoring_node old new applied path n (Ok u) before within dated tree given can err =
    let bounded : IsBounded (with_row old.tree path n) = record {
      zxid = before.bounded.zxid;
      time = before.bounded.time;
      counters = all_insert (IsWithin (MAX_RAISES * old.tree.zxid)) old.tree.nodes path n
          before.bounded.counters within;
      sessions = before.bounded.sessions;
    } in
    let longer = ap (λ (t : Tree). finite.len t.nodes) tree
    ∙ len-insert paths_total old.tree.nodes path n
    ∙ ap (λ b. cond b (finite.len old.tree.nodes) (finite.len old.tree.nodes + 1)) can.free in
    let few = before.given_few in
    record {
      bounded = subst IsBounded (sym tree) bounded;
      applied_few = before.applied_few;
      given_few = omega (arith, longer, few, given);
      dated = subst AllDated (sym tree) (all_insert (IsDated old.tree.zxid old.tree.time)
          old.tree.nodes path n before.dated dated);
    }
restoring_node old new applied path n (Err fault) before within dated tree given can err =
    subst (λ (s : StoreView). IsRestoring s applied) (sym err) before

-- a session put, or refused
pub restoring_session : (old new : StoreView) (applied id : ℕ) (s : Session)
    (result : Result (Unit {0}) RestoreFault) → IsRestoring old applied →
    IsGranted old.tree.limits.timeout old.tree.zxid id s → OnOk result (new.tree ≡ with_session_row old.tree id s) →
    OnOk result (new.given ≡ old.given) → OnErr result (new ≡ old) → IsRestoring new applied
restoring_session old new applied id s (Ok u) before granted tree given err =
    let bounded : IsBounded (with_session_row old.tree id s) = record {
      zxid = before.bounded.zxid;
      time = before.bounded.time;
      counters = before.bounded.counters;
      sessions = put-granted old.tree.limits.timeout old.tree.zxid old.tree.sessions id s before.bounded.sessions granted;
    } in
    let same = ap (λ (t : Tree). finite.len t.nodes) tree in
    let few = before.given_few in
    record {
      bounded = subst IsBounded (sym tree) bounded;
      applied_few = before.applied_few;
      given_few = omega (arith, same, few, given);
      dated = subst AllDated (sym tree) before.dated;
    }
restoring_session old new applied id s (Err fault) before granted tree given err =
    subst (λ (v : StoreView). IsRestoring v applied) (sym err) before

-- a session whose numbers passed the tests
pub granted : (t : Tree) (id : ℕ) (s : Session) (number z first : ℕ) (limits : TreeLimits) →
    number ≡ id → z ≡ first → first ≡ t.zxid → limits ≡ t.limits →
    number ≤ z → 2 ≤ s.timeout → s.timeout ≤ limits.timeout → IsGranted t.limits.timeout t.zxid id s
granted t id s number z first limits is z_is first_is limits_is early least most =
    record {
      before = omega (arith, is, z_is, first_is, early);
      least = least;
      most = subst (λ (l : TreeLimits). s.timeout ≤ l.timeout) limits_is most;
    }
