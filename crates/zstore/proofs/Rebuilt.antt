-- The rows of a lawful tree: each can be put after those before it, and together they make the tree.
use Rattle.std.proofs.Common.{◌≡◌, ◌≢◌, ℕ, true, false, List, [], ◌∷◌, Some, refl, sym, ap, subst, ◌∙◌, arith}
use lib.Dec.{T}
use Rattle.std.specs.declared.cmp.Ordering.TheVariants.{Less}
use Rattle.std.specs.Prelude.{is_some}
use Rattle.std.specs.Cmp.{tied_itself, nat_cmp_total}
use Rattle.std.specs.Cmp.Lexicographic.{nat_list_cmp_total}
use Rattle.std.specs.FinMap as finite
use Rattle.std.specs.FinMap.{find, is_sorted, entries_sorted, get-entries, nat_cmp-IsAntisymmetric}
use Rattle.std.specs.FinMap.Entries.{below_all}
use Rattle.zpath.specs.Grammar.{path_cmp}
use Rattle.ztree.specs.declared.limits.TreeLimits.{TreeLimits}
use Rattle.ztree.specs.declared.node.Node.{Node}
use Rattle.ztree.specs.declared.session.Session.{Session}
use Rattle.ztree.specs.Tree.{Tree, Path, Nodes, Sessions, parent_of, has_node}
use Rattle.ztree.specs.Lawful.{IsLawful, IsPersistent, IsOwner}
use Rattle.ztree.proofs.Sorted.{paths_total, same_path, both_parts, find_below}
use Rattle.ztree.proofs.Maps.{none_some, same_some, is_there, get-insert-here}
use Rattle.zstore.specs.Restored.{with_rows, with_session_rows, CanBeRoot, CanPut, CanPutAll, CanPutSession, CanPutSessions}
use Rattle.zstore.specs.RestoredLaws.{IsRebuilt, RefusedRootsAreNowhere, RefusedSessionsAreNowhere, RefusedNodesAreNowhere}
use Rattle.zstore.proofs.Left.{Left, left_at, left_all, left_done, left_is, left_free, left_before, left_fewer, left_next}
use Rattle.zstore.proofs.parts.Cached.{has-inserted}

-- a path is above that of its parent
parent_before : (path : Path) → path ≢ [] → path_cmp (parent_of path) path ≡ Less
parent_before [] below = absurd (below refl)
parent_before (n ∷ []) below = refl
parent_before (n ∷ (m ∷ path)) below =
    rw (tied_itself nat_list_cmp_total n) (parent_before (m ∷ path) (λ e. cc))

module _ (t : Tree) (lawful : IsLawful t) where
  abbrev nodes_left : Nodes → List (Path × Node) → Type 0
  nodes_left = Left paths_total same_path t.nodes

  abbrev sessions_left : Sessions → List (ℕ × Session) → Type 0
  sessions_left = Left nat_cmp_total nat_cmp-IsAntisymmetric t.sessions

  -- its root can be one
  pub root_can : (root : Node) → finite.get t.nodes [] ≡ Some root → CanBeRoot root
  root_can root at = record {
    nobodys = ap (λ (x : Node). x.owner) (same_some root lawful.root.0 (sym at ∙ lawful.root.1))
        ∙ lawful.root.2;
    stays = lawful.root_stays root at;
  }

  -- its next session can be put
  pub session_can : (u : Tree) (e : ℕ × Session) (rest : List (ℕ × Session)) → u.time ≡ t.time →
      u.limits ≡ t.limits → sessions_left u.sessions (e ∷ rest) → CanPutSession u e.0 e.1
  session_can u e rest time limits left =
      let is = left_is nat_cmp_total nat_cmp-IsAntisymmetric t.sessions u.sessions e rest left in
      let fewer = left_fewer nat_cmp_total nat_cmp-IsAntisymmetric t.sessions u.sessions e rest left in
      let few = lawful.few_sessions in
      let most : u.limits.sessions ≡ t.limits.sessions = ap (λ (l : TreeLimits). l.sessions) limits in
      let later = lawful.deadlines e.0 e.1 is in
      record {
        free = left_free nat_cmp_total nat_cmp-IsAntisymmetric t.sessions u.sessions e rest left;
        somebody = lawful.ids e.0 e.1 is;
        lives = omega (arith, time, later);
        few = omega (arith, fewer, few, most);
      }

  -- its next node can be put
  pub node_can : (u : Tree) (e : Path × Node) (rest : List (Path × Node)) → u.sessions ≡ t.sessions →
      u.limits ≡ t.limits → has_node u.nodes [] ≡ true → nodes_left u.nodes (e ∷ rest) → CanPut u e.0 e.1
  node_can u e rest sessions limits root left =
      let is = left_is paths_total same_path t.nodes u.nodes e rest left in
      let free = ap is_some (left_free paths_total same_path t.nodes u.nodes e rest left) in
      let below : e.0 ≢ [] = λ at.
      let f : true ≡ false = sym root ∙ ap (has_node u.nodes) (sym at) ∙ free in cc in
      let fewer = left_fewer paths_total same_path t.nodes u.nodes e rest left in
      let few = lawful.few_nodes in
      let most : u.limits.nodes ≡ t.limits.nodes = ap (λ (l : TreeLimits). l.nodes) limits in
      record {
        free = free;
        parent = subst IsPersistent
            (sym (left_before paths_total same_path t.nodes u.nodes e rest left (parent_of e.0)
            (parent_before e.0 below)))
            (lawful.parents e.0 (is_there _ e.1 is));
        owner = subst (λ (s : Sessions). IsOwner s e.1.owner) (sym sessions)
            (lawful.owners e.0 e.1 is);
        one_end = lawful.ends e.0 e.1 is;
        few = omega (arith, fewer, few, most);
      }

  pub sessions_put : (nodes : Nodes) (m : Sessions) (rest : List (ℕ × Session)) → sessions_left m rest →
      CanPutSessions (record t { nodes = nodes; sessions = m }) rest
      × (with_session_rows (record t { nodes = nodes; sessions = m }) rest
      ≡ record t { nodes = nodes })
  sessions_put nodes m [] left = (
    tt,
    ap (λ (s : Sessions). record t { nodes = nodes; sessions = s })
        (left_done nat_cmp_total nat_cmp-IsAntisymmetric t.sessions m left),
  )
  sessions_put nodes m (e ∷ rest) left =
      let can = session_can (record t { nodes = nodes; sessions = m }) e rest refl refl left in
      let more = sessions_put nodes (finite.insert m e.0 e.1) rest
      (left_next nat_cmp_total nat_cmp-IsAntisymmetric t.sessions m e rest left) in
      ((can, more.0), more.1)

  nodes_put : (m : Nodes) (rest : List (Path × Node)) → nodes_left m rest →
      has_node m [] ≡ true →
      CanPutAll (record t { nodes = m }) rest × (with_rows (record t { nodes = m }) rest ≡ t)
  nodes_put m [] left root =
      (tt, ap (λ (n : Nodes). record t { nodes = n }) (left_done paths_total same_path t.nodes m left))
  nodes_put m (e ∷ rest) left root =
      let can = node_can (record t { nodes = m }) e rest refl refl root left in
      let more = nodes_put (finite.insert m e.0 e.1) rest
      (left_next paths_total same_path t.nodes m e rest left) (has-inserted m e.0 e.1 [] root) in
      ((can, more.0), more.1)

  -- the first of its nodes is the root
  record RootFirst (es : List (Path × Node)) : Type 0 where
    root : Node
    rows : List (Path × Node)
    listed : es ≡ ([], root) ∷ rows
    can : CanBeRoot root

  root_is_first : (es : List (Path × Node)) → T (is_sorted path_cmp es) →
      ((q : Path) → finite.get t.nodes q ≡ find path_cmp q es) → RootFirst es
  root_is_first [] sorted is =
      absurd (none_some lawful.root.0 (sym (is []) ∙ lawful.root.1))
  root_is_first (([], n) ∷ es) sorted is =
      record { root = n; rows = es; listed = refl; can = root_can n (is []) }
  root_is_first (((k ∷ path), n) ∷ es) sorted is =
      let below = (both_parts (below_all path_cmp (k ∷ path) es) (is_sorted path_cmp es) sorted).0 in
      absurd (none_some lawful.root.0
      (sym (find_below path_cmp paths_total [] (k ∷ path) es refl below) ∙ sym (is [])
      ∙ lawful.root.1))

  pub rebuilt : IsRebuilt t
  rebuilt =
      let first = root_is_first (finite.entries t.nodes) (entries_sorted t.nodes) (get-entries t.nodes) in
      let nodes : Nodes = finite.insert finite.empty [] first.root in
      let left : nodes_left finite.empty (([], first.root) ∷ first.rows) =
      subst (nodes_left finite.empty) first.listed (left_all paths_total same_path t.nodes) in
      let sessions = sessions_put nodes finite.empty (finite.entries t.sessions)
      (left_all nat_cmp_total nat_cmp-IsAntisymmetric t.sessions) in
      let all = nodes_put nodes first.rows
      (left_next paths_total same_path t.nodes finite.empty ([], first.root) first.rows left)
      (ap is_some (get-insert-here paths_total same_path finite.empty [] first.root)) in
      record {
        root = first.root;
        rows = first.rows;
        listed = first.listed;
        can_root = first.can;
        can_sessions = sessions.0;
        can_nodes = subst (λ (u : Tree). CanPutAll u first.rows) (sym sessions.1) all.0;
        whole = ap (λ (u : Tree). with_rows u first.rows) sessions.1 ∙ all.1;
      }

pub refused_roots : RefusedRootsAreNowhere
refused_roots root cannot whole lawful at = cannot (root_can whole lawful root at)

pub refused_sessions : RefusedSessionsAreNowhere
refused_sessions so_far id s cannot whole lawful next =
    cannot (session_can whole lawful so_far (id, s) next.after next.time next.limits
    (left_at nat_cmp_total nat_cmp-IsAntisymmetric whole.sessions so_far.sessions
    ((id, s) ∷ next.after) next.rows))

pub refused_nodes : RefusedNodesAreNowhere
refused_nodes so_far path n before cannot whole lawful next =
    cannot (node_can whole lawful so_far (path, n) next.after next.sessions next.limits
    (is_there _ before.root.0 before.root.1)
    (left_at paths_total same_path whole.nodes so_far.nodes ((path, n) ∷ next.after) next.rows))
