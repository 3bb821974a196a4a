-- The session end leaves a lawful tree lawful.
use Rattle.std.proofs.Common.{◌≡◌, ◌≢◌, inl, inr, ℕ, ◌<◌, Bool, true, false, cond, List, [], ◌∷◌, Some, None, IsSome, refl, subst, arith}
use Rattle.std.specs.Prelude.{nat_le, ◌==◌}
use Rattle.std.specs.List.{AllByRecursion}
use Rattle.std.specs.Cmp.{nat_cmp_total, unsigned_Decides}
use Rattle.std.specs.FinMap as finite
use Rattle.std.specs.FinMap.{nat_cmp-IsAntisymmetric}
use Rattle.ztree.specs.declared.node.Node.{Node}
use Rattle.ztree.specs.declared.session.Session.{Session}
use Rattle.ztree.specs.Tree.{Tree, Path, Sessions, ephemerals, children, without_node}
use Rattle.ztree.specs.Sessions.{without_nodes, without_session, without_sessions, due_sessions}
use Rattle.ztree.specs.Lawful.{IsOwner, IsLawful}
use Rattle.ztree.proofs.Sorted.{paths_total, same_path}
use Rattle.ztree.proofs.Maps.{has_some, get-remove-elsewhere, get-removed, len-remove-most, none_of_entries}
use Rattle.ztree.proofs.Lawful.{lawful_dropped}
use Rattle.ztree.proofs.Ephemerals.{path_if_owned, first_is_there, ephemerals-dropped, owned_is_leaf, owned_is_below}
use Rattle.ztree.proofs.Ending.{sessions-all_dropped, all_entries}

is_not_0 : (id owner : ℕ) → 0 < id → owner ≡ id → owner ≢ 0
is_not_0 id owner above is e = omega (arith, above, is, e)

-- the first node of a session is a leaf of a lawful tree, below the root
pub first_is_leaf : (t : Tree) (id : ℕ) (path : Path) (paths : List Path) → IsLawful t → 0 < id → ephemerals t.nodes id ≡ path ∷ paths → (path ≢ []) × (children t.nodes path ≡ [])
first_is_leaf t id path paths lawful above all =
    let n = first_is_there id t.nodes path paths all in
    let owned = is_not_0 id n.0.owner above n.2 in
    (owned_is_below t path n.0 lawful n.1 owned, owned_is_leaf t path n.0 lawful n.1 owned)

-- so it can be taken away
lawful_first_dropped : (t : Tree) (id : ℕ) (path : Path) (paths : List Path) → IsLawful t → 0 < id → ephemerals t.nodes id ≡ path ∷ paths → IsLawful (without_node t path)
lawful_first_dropped t id path paths lawful above all =
    let leaf = first_is_leaf t id path paths lawful above all in
    lawful_dropped t path lawful leaf.0 leaf.1

-- and so can they all, one after the other
pub lawful_all_dropped : (paths : List Path) (t : Tree) (id : ℕ) → IsLawful t → 0 < id → ephemerals t.nodes id ≡ paths → IsLawful (without_nodes t paths) × (ephemerals (without_nodes t paths).nodes id ≡ [])
lawful_all_dropped [] t id lawful above all = (lawful, all)
lawful_all_dropped (path ∷ paths) t id lawful above all =
    lawful_all_dropped paths (without_node t path) id (lawful_first_dropped t id path paths lawful above all) above (ephemerals-dropped id t path paths all)

-- a session that owns nothing can go
pub lawful_forgotten : (t : Tree) (id : ℕ) → IsLawful t → ephemerals t.nodes id ≡ [] → IsLawful (record t { sessions = finite.remove t.sessions id })
lawful_forgotten t id lawful none =
    record {
      root = lawful.root;
      root_stays = lawful.root_stays;
      parents = lawful.parents;
      owners = λ path n e. still n.owner (another path n e) (lawful.owners path n e);
      ends = lawful.ends;
      ids = λ k s e. lawful.ids k s (get-removed nat_cmp_total nat_cmp-IsAntisymmetric t.sessions id k s e).1;
      deadlines = λ k s e. lawful.deadlines k s (get-removed nat_cmp_total nat_cmp-IsAntisymmetric t.sessions id k s e).1;
      few_nodes = lawful.few_nodes;
      few_sessions = len-remove-most nat_cmp_total nat_cmp-IsAntisymmetric t.sessions id t.limits.sessions lawful.few_sessions;
      allowed = lawful.allowed;
    }
  where
    untested : (b : Bool) (path : Path) → cond b (Some path) None ≡ None → b ≡ false
    untested true path e = cc
    untested false path e = refl

    another : (path : Path) (n : Node) → finite.get t.nodes path ≡ Some n → n.owner ≢ id
    another path n e is =
        let no_owner = untested (n.owner == id) path (none_of_entries paths_total same_path (path_if_owned id) t.nodes path n none e) in
        let owner = (unsigned_Decides n.owner id).1 is in
        cc

    still : (owner : ℕ) → owner ≢ id → IsOwner t.sessions owner → IsOwner (finite.remove t.sessions id) owner
    still owner other (inl nobody) = inl nobody
    still owner other (inr lives) = inr (rw (get-remove-elsewhere nat_cmp_total nat_cmp-IsAntisymmetric t.sessions id owner other) lives)

-- the session end leaves a lawful tree lawful
pub lawful_ended : (t : Tree) (id : ℕ) → IsLawful t → 0 < id → IsLawful (without_session t id)
lawful_ended t id lawful above =
    let paths = ephemerals t.nodes id in
    let left = lawful_all_dropped paths t id lawful above refl in
    subst (λ (s : Sessions). IsLawful (record (without_nodes t paths) { sessions = finite.remove s id })) (sessions-all_dropped t paths) (lawful_forgotten (without_nodes t paths) id left.0 left.1)

-- a session of a lawful tree has an id above 0
pub live_above : (t : Tree) (id : ℕ) → IsLawful t → IsSome (finite.get t.sessions id) → 0 < id
live_above t id lawful lives = let s = has_some (finite.get t.sessions id) lives in lawful.ids id s.0 s.1

-- the end of several sessions leaves a lawful tree lawful
pub lawful_all_ended : (t : Tree) (ids : List ℕ) → IsLawful t → AllByRecursion (λ id. 0 < id) ids → IsLawful (without_sessions t ids)
lawful_all_ended t [] lawful above = lawful
lawful_all_ended t (id ∷ ids) lawful above = lawful_all_ended (without_session t id) ids (lawful_ended t id lawful above.0) above.1

-- the sessions that are due in a lawful tree have ids above 0
pub due_above : (t : Tree) (tick : ℕ) → IsLawful t → AllByRecursion (λ id. 0 < id) (due_sessions t.sessions tick)
due_above t tick lawful = all_entries nat_cmp_total nat_cmp-IsAntisymmetric (λ (s : Session). nat_le s.deadline tick) (λ id. 0 < id) t.sessions lawful.ids
