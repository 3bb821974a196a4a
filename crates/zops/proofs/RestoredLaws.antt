-- The rows of a settled tree: each can be put after those before it, and together they make the tree.
use Rattle.std.proofs.Common.{◌≡◌, ℕ, ◌*◌, ◌<◌, ◌≤◌, true, List, [], ◌∷◌, refl, sym, ap, subst}
use Rattle.std.specs.Prelude.{is_some}
use Rattle.std.specs.Cmp.{nat_cmp_total}
use Rattle.std.specs.FinMap as finite
use Rattle.std.specs.FinMap.{nat_cmp-IsAntisymmetric}
use Rattle.ztree.specs.declared.limits.TheConstants.{ZXID_BOUND, TICK_BOUND}
use Rattle.ztree.specs.declared.limits.TreeLimits.{TreeLimits}
use Rattle.ztree.specs.declared.node.Node.{Node}
use Rattle.ztree.specs.Limits.{AreLimits}
use Rattle.ztree.specs.declared.session.Session.{Session}
use Rattle.ztree.specs.Tree.{Tree, Path, Nodes, Sessions, has_node}
use Rattle.ztree.proofs.Sorted.{paths_total, same_path}
use Rattle.ztree.proofs.Maps.{is_there, get-insert-here}
use Rattle.zstore.proofs.Left.{Left, left_at, left_all, left_is, left_next}
use Rattle.zstore.proofs.Rebuilt.{rebuilt, root_can, session_can, node_can, sessions_put}
use Rattle.zstore.proofs.parts.Cached.{has-inserted}
use Rattle.zcalls.specs.declared.limits.TheConstants.{MAX_RAISES}
use Rattle.zcalls.specs.Bounds.{IsWithin, IsGranted}
use Rattle.zops.specs.declared.limits.TheConstants.{MAX_APPLIED}
use Rattle.zops.specs.Restored.{IsDated, CanPutGranted, CanPutNode}
use Rattle.zops.specs.RestoredLaws.{IsSettled, IsRestored, CanPutAllGranted, CanPutAllNodes, RefusedRootsAreNowhere, RefusedSessionsAreNowhere, RefusedNodesAreNowhere}

module _ (t : Tree) (settled : IsSettled t) where
  abbrev nodes_left : Nodes → List (Path × Node) → Type 0
  nodes_left = Left paths_total same_path t.nodes

  abbrev sessions_left : Sessions → List (ℕ × Session) → Type 0
  sessions_left = Left nat_cmp_total nat_cmp-IsAntisymmetric t.sessions

  -- its next session can be put
  pub granted_can : (u : Tree) (e : ℕ × Session) (rest : List (ℕ × Session)) → u.time ≡ t.time →
      u.zxid ≡ t.zxid → u.limits ≡ t.limits → sessions_left u.sessions (e ∷ rest) →
      CanPutGranted u e.0 e.1
  granted_can u e rest time zxid limits left =
      let is = left_is nat_cmp_total nat_cmp-IsAntisymmetric t.sessions u.sessions e rest left in
      record {
        can = session_can t settled.lawful u e rest time limits left;
        granted = subst (λ z. IsGranted u.limits.timeout z e.0 e.1) (sym zxid)
            (subst (λ (l : TreeLimits). IsGranted l.timeout t.zxid e.0 e.1) (sym limits)
            (settled.bounded.sessions e.0 e.1 is));
      }

  -- its next node can be put
  pub bounded_can : (u : Tree) (e : Path × Node) (rest : List (Path × Node)) →
      u.sessions ≡ t.sessions → u.time ≡ t.time → u.zxid ≡ t.zxid → u.limits ≡ t.limits →
      has_node u.nodes [] ≡ true → nodes_left u.nodes (e ∷ rest) → CanPutNode u e.0 e.1
  bounded_can u e rest sessions time zxid limits root left =
      let is = left_is paths_total same_path t.nodes u.nodes e rest left in
      record {
        can = node_can t settled.lawful u e rest sessions limits root left;
        within = subst (λ z. IsWithin (MAX_RAISES * z) e.1) (sym zxid)
            (settled.bounded.counters e.0 e.1 is);
        dated = subst (λ z. IsDated z u.time e.1) (sym zxid)
            (subst (λ tick. IsDated t.zxid tick e.1) (sym time) (settled.dated e.0 e.1 is));
      }

  granted_put : (nodes : Nodes) (m : Sessions) (rest : List (ℕ × Session)) → sessions_left m rest →
      CanPutAllGranted (record t { nodes = nodes; sessions = m }) rest
  granted_put nodes m [] left = tt
  granted_put nodes m (e ∷ rest) left = (
    granted_can (record t { nodes = nodes; sessions = m }) e rest refl refl refl left,
    granted_put nodes (finite.insert m e.0 e.1) rest
        (left_next nat_cmp_total nat_cmp-IsAntisymmetric t.sessions m e rest left),
  )

  bounded_put : (m : Nodes) (rest : List (Path × Node)) → nodes_left m rest →
      has_node m [] ≡ true → CanPutAllNodes (record t { nodes = m }) rest
  bounded_put m [] left root = tt
  bounded_put m (e ∷ rest) left root = (
    bounded_can (record t { nodes = m }) e rest refl refl refl refl root left,
    bounded_put (finite.insert m e.0 e.1) rest
        (left_next paths_total same_path t.nodes m e rest left) (has-inserted m e.0 e.1 [] root),
  )

  pub restored : (applied : ℕ) → applied ≤ MAX_APPLIED → IsRestored t applied
  restored applied few =
      let own = rebuilt t settled.lawful in
      let nodes : Nodes = finite.insert finite.empty [] own.root in
      let left : nodes_left finite.empty (([], own.root) ∷ own.rows) =
      subst (nodes_left finite.empty) own.listed (left_all paths_total same_path t.nodes) in
      let at = left_is paths_total same_path t.nodes finite.empty ([], own.root) own.rows left in
      let sessions_all = left_all nat_cmp_total nat_cmp-IsAntisymmetric t.sessions in
      let sessions = sessions_put t settled.lawful nodes finite.empty (finite.entries t.sessions)
      sessions_all in
      let can_nodes = bounded_put nodes own.rows
      (left_next paths_total same_path t.nodes finite.empty ([], own.root) own.rows left)
      (ap is_some (get-insert-here paths_total same_path finite.empty [] own.root)) in
      record {
        root = own.root;
        rows = own.rows;
        listed = own.listed;
        can_begin = record {
          can = own.can_root;
          within = settled.bounded.counters [] own.root at;
          dated = settled.dated [] own.root at;
          zxid_few = settled.bounded.zxid;
          time_few = settled.bounded.time;
          applied_few = few;
          allowed = settled.lawful.allowed;
        };
        can_sessions = granted_put nodes finite.empty (finite.entries t.sessions) sessions_all;
        can_nodes = subst (λ (u : Tree). CanPutAllNodes u own.rows) (sym sessions.1) can_nodes;
        whole = own.whole;
      }

pub refused_roots : RefusedRootsAreNowhere
refused_roots root time zxid applied limits cannot few whole settled time_is zxid_is limits_is at =
    cannot (record {
      can = root_can whole settled.lawful root at;
      within = subst (λ z. IsWithin (MAX_RAISES * z) root) zxid_is
          (settled.bounded.counters [] root at);
      dated = subst (λ z. IsDated z time root) zxid_is
          (subst (λ tick. IsDated whole.zxid tick root) time_is (settled.dated [] root at));
      zxid_few = subst (λ z. z < ZXID_BOUND) zxid_is settled.bounded.zxid;
      time_few = subst (λ tick. tick < TICK_BOUND) time_is settled.bounded.time;
      applied_few = few;
      allowed = subst AreLimits limits_is settled.lawful.allowed;
    })

pub refused_sessions : RefusedSessionsAreNowhere
refused_sessions so_far id s cannot whole settled zxid next =
    cannot (granted_can whole settled so_far (id, s) next.after next.time zxid next.limits
    (left_at nat_cmp_total nat_cmp-IsAntisymmetric whole.sessions so_far.sessions
    ((id, s) ∷ next.after) next.rows))

pub refused_nodes : RefusedNodesAreNowhere
refused_nodes so_far path n before cannot whole settled zxid time next =
    cannot (bounded_can whole settled so_far (path, n) next.after next.sessions time zxid next.limits
    (is_there _ before.root.0 before.root.1)
    (left_at paths_total same_path whole.nodes so_far.nodes ((path, n) ∷ next.after) next.rows))
