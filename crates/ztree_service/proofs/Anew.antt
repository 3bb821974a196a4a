-- A machine that is made anew from the rows of another's tree: each row can be put, and they make
-- the tree.
use Rattle.std.proofs.Common.{◌≡◌, ℕ, List, [], ◌∷◌, ◌++◌, map, take, drop, Some, refl, sym, ap, subst, ◌∙◌, arith}
use Rattle.std.specs.declared.cmp.Ordering.{Ordering}
use Rattle.std.specs.Cmp.{IsTotalOrder, nat_cmp_total}
use Rattle.std.specs.FinMap as finite
use Rattle.std.specs.FinMap.{FinMap, IsAntisymmetric, entries, get, insert, keys, nat_cmp-IsAntisymmetric}
use Rattle.std.specs.List.{AllByRecursion}
use Rattle.ztree.specs.declared.node.Node.{Node}
use Rattle.ztree.specs.declared.session.Session.{Session}
use Rattle.ztree.specs.Tree.{Path, Tree}
use Rattle.ztree.proofs.Maps.{same_some}
use Rattle.ztree.proofs.Sorted.{paths_total, same_path}
use Rattle.zstore.specs.Restored.{with_row, with_rows, with_session_row, with_session_rows}
use Rattle.zstore.proofs.Left.{Left, left_all, left_is, left_next}
use Rattle.zops.specs.Machine.{MachineState}
use Rattle.zops.specs.Restored.{CanBegin, CanPutGranted, CanPutNode, rooted_machine, with_plain}
use Rattle.zops.specs.RestoredLaws.{CanPutAllGranted, CanPutAllNodes, IsRestored, IsSettled}
use Rattle.zops.proofs.RestoredLaws.{restored as made_again}
use Rattle.ztree_service.specs.Machines.{machine_of}
use Rattle.ztree_service.specs.support.Tables.{NodesAreLeft}

-- ---- the entries of a map are found in it

module _ {K X : Type 0} {R : K → K → Ordering} (o : IsTotalOrder R) (same : IsAntisymmetric R) (m : FinMap R X) where
  abbrev pub AreThere : List (K × X) → Type 0
  AreThere = AllByRecursion (λ (e : K × X). get m e.0 ≡ Some e.1)

  each_there : (now : FinMap R X) (rest : List (K × X)) → Left o same m now rest → AreThere rest
  each_there now [] left = tt
  each_there now (e ∷ rest) left = (left_is o same m now e rest left, each_there (insert now e.0 e.1) rest (left_next o same m now e rest left))

  pub all_there : AreThere (entries m)
  all_there = each_there finite.empty (entries m) (left_all o same m)

-- ---- sessions

-- the sessions with these ids are still to be put: then the machine is this one
pub record SessionsAreLeft (t : Tree) (target now : MachineState) (ids : List ℕ) : Type 0 where
  pub rows : List (ℕ × Session)
  pub named : ids ≡ map (λ e. e.0) rows
  pub there : AllByRecursion (λ e. get t.sessions e.0 ≡ Some e.1) rows
  pub can : CanPutAllGranted now.service.plain rows
  pub whole : with_plain now (with_session_rows now.service.plain rows) ≡ target

pub sessions_all : (t : Tree) (now : MachineState) (ids : List ℕ) → ids ≡ keys t.sessions → CanPutAllGranted now.service.plain (entries t.sessions)
    → SessionsAreLeft t (with_plain now (with_session_rows now.service.plain (entries t.sessions))) now ids
sessions_all t now ids named can = record {
  rows = entries t.sessions;
  named = named;
  there = all_there nat_cmp_total nat_cmp-IsAntisymmetric t.sessions;
  can = can;
  whole = refl;
}

pub sessions_none : (t : Tree) (target now : MachineState) → SessionsAreLeft t target now [] → now ≡ target
sessions_none t target now left = by left.rows left.named left.whole
  where
    by : (rows : List (ℕ × Session)) → [] ≡ map (λ e. e.0) rows → with_plain now (with_session_rows now.service.plain rows) ≡ target → now ≡ target
    by [] named whole = whole
    by (e ∷ rows) named whole = absurd (cc named)

module _ (t : Tree) (target now : MachineState) (id : ℕ) (ids : List ℕ) (s : Session) (got : get t.sessions id ≡ Some s) where
  abbrev IsNext : MachineState → Type 0
  IsNext new = new ≡ with_plain now (with_session_row now.service.plain id s)

  first_session : (e : ℕ × Session) → id ≡ e.0 → get t.sessions e.0 ≡ Some e.1 → (id, s) ≡ e
  first_session e first there =
      let value = same_some s e.1 (sym got ∙ ap (get t.sessions) first ∙ there) in
      λ i. (first i, value i)

  pub session_next : (new : MachineState) → SessionsAreLeft t target now (id ∷ ids) → IsNext new → SessionsAreLeft t target new ids
  session_next new left is = by left.rows left.named left.there left.can left.whole
    where
      by : (rows : List (ℕ × Session)) → id ∷ ids ≡ map (λ e. e.0) rows → AllByRecursion (λ e. get t.sessions e.0 ≡ Some e.1) rows
          → CanPutAllGranted now.service.plain rows
          → with_plain now (with_session_rows now.service.plain rows) ≡ target → SessionsAreLeft t target new ids
      by [] named there can whole = absurd (cc named)
      by (e ∷ rows) named there can whole =
          let first : id ≡ e.0 = cc named in
          let more : ids ≡ map (λ (f : ℕ × Session). f.0) rows = cc named in
          let row = first_session e first there.0 in
          let new_is = is ∙ ap (λ (f : ℕ × Session). with_plain now (with_session_row now.service.plain f.0 f.1)) row in
          subst (λ (m : MachineState). SessionsAreLeft t target m ids) (sym new_is)
          (record { rows = rows; named = more; there = there.1; can = can.1; whole = whole })

  pub session_can : SessionsAreLeft t target now (id ∷ ids) → CanPutGranted now.service.plain id s
  session_can left = by left.rows left.named left.there left.can
    where
      by : (rows : List (ℕ × Session)) → id ∷ ids ≡ map (λ e. e.0) rows → AllByRecursion (λ e. get t.sessions e.0 ≡ Some e.1) rows
          → CanPutAllGranted now.service.plain rows
          → CanPutGranted now.service.plain id s
      by [] named there can = absurd (cc named)
      by (e ∷ rows) named there can =
          let first : id ≡ e.0 = cc named in
          subst (λ (f : ℕ × Session). CanPutGranted now.service.plain f.0 f.1) (sym (first_session e first there.0)) can.0

pub session_there : (t : Tree) (target now : MachineState) (id : ℕ) (ids : List ℕ) → SessionsAreLeft t target now (id ∷ ids)
    → (s : Session) × (get t.sessions id ≡ Some s)
session_there t target now id ids left = by left.rows left.named left.there
  where
    by : (rows : List (ℕ × Session)) → id ∷ ids ≡ map (λ e. e.0) rows → AllByRecursion (λ e. get t.sessions e.0 ≡ Some e.1) rows
        → (s : Session) × (get t.sessions id ≡ Some s)
    by [] named there = absurd (cc named)
    by (e ∷ rows) named there = let first : id ≡ e.0 = cc named in (e.1, ap (get t.sessions) first ∙ there.0)

-- ---- nodes

pub nodes_none : (t : Tree) (now : MachineState) → NodesAreLeft t now [] → now ≡ machine_of t
nodes_none t now left = by left.rows left.named left.whole
  where
    by : (rows : List (Path × Node)) → [] ≡ map (λ e. e.0) rows → with_plain now (with_rows now.service.plain rows) ≡ machine_of t
        → now ≡ machine_of t
    by [] named whole = whole
    by (e ∷ rows) named whole = absurd (cc named)

module _ (t : Tree) (now : MachineState) (path : Path) (paths : List Path) (n : Node) (got : get t.nodes path ≡ Some n) where
  first_node : (e : Path × Node) → path ≡ e.0 → get t.nodes e.0 ≡ Some e.1 → (path, n) ≡ e
  first_node e first there =
      let value = same_some n e.1 (sym got ∙ ap (get t.nodes) first ∙ there) in
      λ i. (first i, value i)

  pub node_next : (new : MachineState) → NodesAreLeft t now (path ∷ paths) → new ≡ with_plain now (with_row now.service.plain path n)
      → NodesAreLeft t new paths
  node_next new left is = by left.rows left.named left.there left.can left.whole
    where
      by : (rows : List (Path × Node)) → path ∷ paths ≡ map (λ e. e.0) rows → AllByRecursion (λ e. get t.nodes e.0 ≡ Some e.1) rows
          → CanPutAllNodes now.service.plain rows
          → with_plain now (with_rows now.service.plain rows) ≡ machine_of t → NodesAreLeft t new paths
      by [] named there can whole = absurd (cc named)
      by (e ∷ rows) named there can whole =
          let first : path ≡ e.0 = cc named in
          let more : paths ≡ map (λ (f : Path × Node). f.0) rows = cc named in
          let row = first_node e first there.0 in
          let new_is = is ∙ ap (λ (f : Path × Node). with_plain now (with_row now.service.plain f.0 f.1)) row in
          subst (λ (m : MachineState). NodesAreLeft t m paths) (sym new_is)
          (record { rows = rows; named = more; there = there.1; can = can.1; whole = whole })

  pub node_can : NodesAreLeft t now (path ∷ paths) → CanPutNode now.service.plain path n
  node_can left = by left.rows left.named left.there left.can
    where
      by : (rows : List (Path × Node)) → path ∷ paths ≡ map (λ e. e.0) rows → AllByRecursion (λ e. get t.nodes e.0 ≡ Some e.1) rows
          → CanPutAllNodes now.service.plain rows
          → CanPutNode now.service.plain path n
      by [] named there can = absurd (cc named)
      by (e ∷ rows) named there can =
          let first : path ≡ e.0 = cc named in
          subst (λ (f : Path × Node). CanPutNode now.service.plain f.0 f.1) (sym (first_node e first there.0)) can.0

pub node_there : (t : Tree) (now : MachineState) (path : Path) (paths : List Path) → NodesAreLeft t now (path ∷ paths)
    → (n : Node) × (get t.nodes path ≡ Some n)
node_there t now path paths left = by left.rows left.named left.there
  where
    by : (rows : List (Path × Node)) → path ∷ paths ≡ map (λ e. e.0) rows → AllByRecursion (λ e. get t.nodes e.0 ≡ Some e.1) rows
        → (n : Node) × (get t.nodes path ≡ Some n)
    by [] named there = absurd (cc named)
    by (e ∷ rows) named there = let first : path ≡ e.0 = cc named in (e.1, ap (get t.nodes) first ∙ there.0)

-- ---- a settled tree's own rows

module _ (t : Tree) (settled : IsSettled t) where
  abbrev restored : IsRestored t 0
  restored = made_again t settled 0 (omega arith)

  all_nodes : AllByRecursion (λ (e : Path × Node). get t.nodes e.0 ≡ Some e.1) (([], restored.root) ∷ restored.rows)
  all_nodes = subst (AllByRecursion (λ (e : Path × Node). get t.nodes e.0 ≡ Some e.1)) restored.listed (all_there paths_total same_path t.nodes)

  root_is : (root : Node) → get t.nodes [] ≡ Some root → restored.root ≡ root
  root_is root got = same_some restored.root root (sym all_nodes.0 ∙ got)

  pub root_there : (root : Node) × (get t.nodes [] ≡ Some root)
  root_there = (restored.root, all_nodes.0)

  pub can_begin : (root : Node) → get t.nodes [] ≡ Some root → CanBegin root t.time t.zxid 0 t.limits
  can_begin root got = subst (λ (n : Node). CanBegin n t.time t.zxid 0 t.limits) (root_is root got) restored.can_begin

  pub paths_are : keys t.nodes ≡ [] ∷ map (λ (e : Path × Node). e.0) restored.rows
  paths_are = ap (map (λ (e : Path × Node). e.0)) restored.listed

  -- the paths below the root
  pub paths_below : (all paths : List Path) → all ≡ keys t.nodes → paths ≡ take 0 all ++ drop 1 all → [] ∷ paths ≡ keys t.nodes
  paths_below all paths all_is below =
      let listed = all_is ∙ paths_are in
      let rows : paths ≡ map (λ (e : Path × Node). e.0) restored.rows = below ∙ ap (λ (ps : List Path). take 0 ps ++ drop 1 ps) listed in
      ap (λ (ps : List Path). [] ∷ ps) rows ∙ sym paths_are

  module _ (root : Node) (got : get t.nodes [] ≡ Some root) where
    abbrev pub rooted : MachineState
    rooted = rooted_machine root t.time t.zxid 0 t.limits

    pub sessions_can : CanPutAllGranted rooted.service.plain (entries t.sessions)
    sessions_can =
        subst (λ (n : Node). CanPutAllGranted (rooted_machine n t.time t.zxid 0 t.limits).service.plain (entries t.sessions))
        (root_is root got) restored.can_sessions

    pub nodes_all : (now : MachineState) (paths : List Path) → now ≡ with_plain rooted (with_session_rows rooted.service.plain (entries t.sessions))
        → [] ∷ paths ≡ keys t.nodes → NodesAreLeft t now paths
    nodes_all now paths is named =
        let more : paths ≡ map (λ (e : Path × Node). e.0) restored.rows = cc (named ∙ paths_are) in
        subst (λ (m : MachineState). NodesAreLeft t m paths)
        (sym (is ∙ ap (λ (n : Node). with_plain (rooted_machine n t.time t.zxid 0 t.limits)
        (with_session_rows (rooted_machine n t.time t.zxid 0 t.limits).service.plain (entries t.sessions))) (sym (root_is root got))))
        (record {
          rows = restored.rows;
          named = more;
          there = all_nodes.1;
          can = restored.can_nodes;
          whole = ap machine_of restored.whole;
        })
