-- The nodes that a tick removes. They are leaves below the root, while the sessions end and while
-- they are removed one after the other. So the tick leaves a lawful tree lawful.
use Rattle.std.proofs.Common.{◌≡◌, ◌≢◌, ℕ, ◌+◌, Bool, true, false, ◌&&◌, ◌||◌, not, cond, List, [], ◌∷◌, length, Some, ◌⊎◌, inl, inr, ◌<◌, refl, sym, ap, ◌∙◌, arith}
use Rattle.std.specs.Prelude.{◌==◌}
use Rattle.std.specs.Ordering.{eq_by_cmp}
use Rattle.std.specs.Option.{option_map_or}
use Rattle.std.specs.List.{AllByRecursion, list_any}
use Rattle.std.specs.Cmp.{unsigned_Decides, eq_by_cmp_equiv}
use Rattle.std.proofs.lemmas.Bool.Decides.{nat_tests}
use Rattle.zpath.specs.Grammar.{path_cmp}
use Rattle.std.specs.FinMap as finite
use Rattle.ztree.specs.declared.term.Term.TheVariants.{Unlimited}
use Rattle.ztree.specs.declared.node.Node.{Node}
use Rattle.ztree.specs.Tree.{Tree, Path, Nodes, child_name, children, has_node, without_node}
use Rattle.ztree.specs.Sessions.{without_nodes, without_session, without_sessions, due_sessions, with_next_tick}
use Rattle.ztree.specs.Stale.{is_due, is_over, is_leaf, is_stale, stale_nodes}
use Rattle.ztree.specs.Lawful.{IsPersistent, IsLawful}
use Rattle.ztree.proofs.Sorted.{paths_total, same_path}
use Rattle.ztree.proofs.Maps.{same_some, has_some, is_there, none_of_map, none_of_entries}
use Rattle.ztree.specs.Laws.{NoneTwice}
use Rattle.ztree.proofs.Among.{all_where, apart_where}
use Rattle.ztree.proofs.Children.{names_of_keys}
use Rattle.ztree.proofs.Lawful.{lawful_dropped, lawful_advanced}
use Rattle.ztree.proofs.LawfulEnd.{lawful_all_ended, due_above}
use Rattle.ztree.proofs.Ending.{found-dropped, found-ended, has_node-dropped, has_node-ended, sessions-all_dropped, time-all_dropped, time-all_ended, none_due}

pub both : (a b : Bool) → (a && b) ≡ true → (a ≡ true) × (b ≡ true)
both true b e = (refl, e)
both false b e = cc

pub no_length : {A : Type 0} (xs : List A) → (length xs == 0) ≡ true → xs ≡ []
no_length [] e = refl
no_length (x ∷ xs) e =
    let none = (unsigned_Decides (length (x ∷ xs)) 0).0 e in
    absurd (omega (arith, none))

not_true : (b : Bool) → b ≡ false → b ≡ true → ⊥
not_true b f t = cc

neither : (a b : Bool) → (a || b) ≡ false → (a ≡ false) × (b ≡ false)
neither true b e = cc
neither false b e = (refl, e)

-- a node that can be taken away: below the root, and nothing is beneath it
abbrev pub IsLeafBelow : Nodes → Path → Type 0
IsLeafBelow nodes path = (path ≢ []) × (children nodes path ≡ [])

-- all these are such
abbrev pub AreLeaves : Nodes → List Path → Type 0
AreLeaves nodes paths = AllByRecursion (IsLeafBelow nodes) paths

-- what is found in these was there in those
abbrev pub IsWithin : Nodes → Nodes → Type 0
IsWithin fewer nodes = (q : Path) (m : Node) → finite.get fewer q ≡ Some m → (n : Node) × (finite.get nodes q ≡ Some n)

-- where there are fewer nodes a leaf stays one
leaf-still : (nodes fewer : Nodes) (path : Path) → IsWithin fewer nodes → children nodes path ≡ [] → children fewer path ≡ []
leaf-still nodes fewer path within leaf =
    sym (names_of_keys path (finite.entries fewer))
    ∙ none_of_map paths_total same_path (λ (e : Path × Node). child_name path e.0) fewer (λ q m found.
    let n = within q m found in
    none_of_entries paths_total same_path (λ (e : Path × Node). child_name path e.0) nodes q n.0 (names_of_keys path (finite.entries nodes) ∙ leaf) n.1)

pub leaves-still : (nodes fewer : Nodes) (paths : List Path) → IsWithin fewer nodes → AreLeaves nodes paths → AreLeaves fewer paths
leaves-still nodes fewer [] within leaves = tt
leaves-still nodes fewer (path ∷ paths) within leaves = ((leaves.0.0, leaf-still nodes fewer path within leaves.0.1), leaves-still nodes fewer paths within leaves.1)

pub within-dropped : (t : Tree) (path : Path) → IsWithin (without_node t path).nodes t.nodes
within-dropped t path q m found = let n = found-dropped t path q m found in (n.0, n.1)

-- the end of several sessions takes nodes away alone
pub within-all_ended : (t : Tree) (ids : List ℕ) → IsWithin (without_sessions t ids).nodes t.nodes
within-all_ended t [] q m found = (m, found)
within-all_ended t (id ∷ ids) q m found =
    let left = within-all_ended (without_session t id) ids q m found in
    let n = found-ended t id q left.0 left.1 in
    (n.0, n.1)

-- nodes that can be taken away one after the other: leaves below the root that are there, each once
pub record CanAllGo (nodes : Nodes) (paths : List Path) : Type 0 where
  pub leaves : AreLeaves nodes paths
  pub there : AllByRecursion (λ q. has_node nodes q ≡ true) paths
  pub apart : NoneTwice path_cmp paths

others-there : (t : Tree) (path : Path) (paths : List Path) → list_any (eq_by_cmp path_cmp path) paths ≡ false → AllByRecursion (λ q. has_node t.nodes q ≡ true) paths → AllByRecursion (λ q. has_node (without_node t path).nodes q ≡ true) paths
others-there t path [] other there = tt
others-there t path (q ∷ paths) other there =
    let parts = neither (eq_by_cmp path_cmp path q) (list_any (eq_by_cmp path_cmp path) paths) other in (
      has_node-dropped t path q ∙ ap (λ b. cond b false (has_node t.nodes q)) ((eq_by_cmp_equiv paths_total).symm q path ∙ parts.0) ∙ there.0,
      others-there t path paths parts.1 there.1,
    )

-- the first gone, the others can go
pub others-can_go : (t : Tree) (path : Path) (paths : List Path) → CanAllGo t.nodes (path ∷ paths) → CanAllGo (without_node t path).nodes paths
others-can_go t path paths can =
    record {
      leaves = leaves-still t.nodes (without_node t path).nodes paths (within-dropped t path) can.leaves.1;
      there = others-there t path paths can.apart.0 can.there.1;
      apart = can.apart.1;
    }

-- a lawful tree stays lawful when leaves are taken away one after the other
pub lawful_leaves_dropped : (paths : List Path) (t : Tree) → IsLawful t → AreLeaves t.nodes paths → IsLawful (without_nodes t paths)
lawful_leaves_dropped [] t lawful leaves = lawful
lawful_leaves_dropped (path ∷ paths) t lawful leaves =
    lawful_leaves_dropped paths (without_node t path) (lawful_dropped t path lawful leaves.0.0 leaves.0.1)
    (leaves-still t.nodes (without_node t path).nodes paths (within-dropped t path) leaves.1)

-- the nodes that a tick removes are leaves below the root
pub stale-leaf : (t : Tree) (tick : ℕ) → IsLawful t → (q : Path) (n : Node) → finite.get t.nodes q ≡ Some n → is_stale t.nodes tick q n ≡ true → IsLeafBelow t.nodes q
stale-leaf t tick lawful q n found stale =
    let parts = both (is_due tick n) (is_leaf t.nodes q) stale in (
      λ root.
          let stays = lawful.root_stays n (sym (ap (finite.get t.nodes) root) ∙ found) in
          not_true (is_due tick n) (ap (is_over tick n) stays) parts.0,
      no_length (children t.nodes q) parts.1,
    )

pub stale-leaves : (t : Tree) (tick : ℕ) → IsLawful t → AreLeaves t.nodes (stale_nodes t.nodes tick)
stale-leaves t tick lawful = all_where paths_total same_path (is_stale t.nodes tick) (IsLeafBelow t.nodes) t.nodes (stale-leaf t tick lawful)

-- and still are, once sessions have ended
pub stale-leaves_ended : (t : Tree) (tick : ℕ) (ids : List ℕ) → IsLawful t → AreLeaves (without_sessions t ids).nodes (stale_nodes t.nodes tick)
stale-leaves_ended t tick ids lawful =
    leaves-still t.nodes (without_sessions t ids).nodes (stale_nodes t.nodes tick) (within-all_ended t ids) (stale-leaves t tick lawful)

-- no session's end takes what no one owns
persistent-ended : (t : Tree) (id : ℕ) (q : Path) → 0 < id → IsPersistent (finite.get t.nodes q) → IsPersistent (finite.get (without_session t id).nodes q)
persistent-ended t id q above is =
    let stays : has_node (without_session t id).nodes q ≡ true =
    has_node-ended t id q ∙ ap (λ o. option_map_or (λ (n : Node). not (n.owner == id)) o false) is.1
    ∙ ap (λ owner. not (owner == id)) is.2 ∙ not_owner id above in
    let left = has_some (finite.get (without_session t id).nodes q) stays in
    let before = found-ended t id q left.0 left.1 in
    (left.0, left.1, ap (λ (n : Node). n.owner) before.2.same ∙ ap (λ (n : Node). n.owner) (same_some before.0 is.0 (sym before.1 ∙ is.1)) ∙ is.2)
  where
    not_owner : (id : ℕ) → 0 < id → not (0 == id) ≡ true
    not_owner id above = grind (arith, nat_tests)

pub persistent-all_ended : (t : Tree) (ids : List ℕ) (q : Path) → AllByRecursion (λ id. 0 < id) ids → IsPersistent (finite.get t.nodes q) → IsPersistent (finite.get (without_sessions t ids).nodes q)
persistent-all_ended t [] q above is = is
persistent-all_ended t (id ∷ ids) q above is = persistent-all_ended (without_session t id) ids q above.1 (persistent-ended t id q above.0 is)

-- no one owns a node that is due
pub due-nobodys : (t : Tree) (tick : ℕ) → IsLawful t → (q : Path) (n : Node) → finite.get t.nodes q ≡ Some n → is_due tick n ≡ true → n.owner ≡ 0
due-nobodys t tick lawful q n found due = by (lawful.ends q n found)
  where
    by : (n.term ≡ Unlimited) ⊎ (n.owner ≡ 0) → n.owner ≡ 0
    by (inl none) = absurd (not_true (is_due tick n) (ap (is_over tick n) none) due)
    by (inr nobody) = nobody

-- so once sessions have ended, the nodes that the tick removes can all go
pub stale-can_go : (t : Tree) (tick : ℕ) (ids : List ℕ) → IsLawful t → AllByRecursion (λ id. 0 < id) ids → CanAllGo (without_sessions t ids).nodes (stale_nodes t.nodes tick)
stale-can_go t tick ids lawful above =
    record {
      leaves = stale-leaves_ended t tick ids lawful;
      there = all_where paths_total same_path (is_stale t.nodes tick) (λ q. has_node (without_sessions t ids).nodes q ≡ true) t.nodes (λ q n found stale.
          let nobody = due-nobodys t tick lawful q n found (both _ _ stale).0 in
          let left = persistent-all_ended t ids q above (n, found, nobody) in
          is_there _ left.0 left.1);
      apart = apart_where paths_total same_path (is_stale t.nodes tick) t.nodes;
    }

-- a tick that ends the due sessions, and then removes the stale nodes, leaves a lawful tree lawful
pub lawful_ticked : (t : Tree) → IsLawful t → IsLawful (with_next_tick (without_nodes (without_sessions t (due_sessions t.sessions (t.time + 1))) (stale_nodes t.nodes (t.time + 1))))
lawful_ticked t lawful =
    let ids = due_sessions t.sessions (t.time + 1) in
    let paths = stale_nodes t.nodes (t.time + 1) in
    let ended = without_sessions t ids in
    lawful_advanced (without_nodes ended paths)
    (lawful_leaves_dropped paths ended (lawful_all_ended t ids lawful (due_above t (t.time + 1) lawful)) (stale-leaves_ended t (t.time + 1) ids lawful))
    (rw (sessions-all_dropped ended paths, time-all_dropped ended paths, time-all_ended t ids) (none_due t (t.time + 1)))
