-- The paths of a look cover what calls might take: doomed nodes that a watch waits for, and their parents.
use Rattle.std.proofs.Common.{◌≡◌, ◌∙◌, ◌+◌, ℕ, Bool, true, false, List, [], ◌∷◌, ◌++◌, Option, None, Some, refl, sym, ap, subst, inl, inr, arith}
use Rattle.std.proofs.Math.Bool.{or-true}
use mathlib.Core.Bool.{true≢false}
use Rattle.std.specs.Prelude.{◌⊎◌, ◌||◌, ◌==◌, is_some, map, nat_le, if◌then◌else◌}
use Rattle.std.specs.Cmp.{nat_cmp_total}
use Rattle.std.specs.FinMap as finite
use Rattle.std.specs.FinMap.{nat_cmp-IsAntisymmetric, entries_sorted, from_entries, get-from_entries}
use Rattle.std.specs.FinMap.Entries.{is_some-find}
use Rattle.std.specs.List.{filter, flat_map, list_any}
use Rattle.std.specs.Option.{option_map_or}
use Rattle.std.specs.Ordering.{eq_by_cmp, nat_cmp}
use Rattle.std.proofs.lemmas.Bool.Decides.{nat_tests}
use Rattle.std.proofs.lemmas.List.Folds.{list_any-append}
use Rattle.zpath.specs.Grammar.{path_cmp}
use Rattle.ztree.specs.declared.node.Node.{Node}
use Rattle.ztree.specs.declared.session.Session.{Session}
use Rattle.ztree.specs.Lawful.{IsLawful, IsPersistent}
use Rattle.ztree.specs.Stale.{is_stale}
use Rattle.ztree.specs.Tree.{Tree, Path, Nodes, parent_of, has_node, ephemerals}
use Rattle.ztree.proofs.Among.{among_where}
use Rattle.ztree.proofs.Ending.{among_entries}
use Rattle.ztree.proofs.Maps.{tied, tied_same}
use Rattle.ztree.proofs.Sorted.{paths_total, same_path}
use Rattle.zcalls.specs.Lists.{Among}
use Rattle.zcalls.specs.declared.call.Call.{Call}
use Rattle.zcalls.specs.declared.call.Call.TheVariants.{Update, Query}
use Rattle.zcalls.specs.declared.call.Update.TheVariants as act
use Rattle.zcalls.specs.Step.{due_next, stale_next}
use Rattle.zjute.specs.declared.event.EventKind.TheVariants.{NodeDeleted}
use Rattle.zprotocol.specs.world.FromTree.{CanStart}
use Rattle.zwatches.specs.declared.watch.Watch.{Watch}
use Rattle.zwatches.specs.Events.{fires, is_awaited}
use Rattle.ztree_service.specs.Sizes.{owned_by}
use Rattle.ztree_service.specs.log.Logs.{tree_after}
use Rattle.zfront.specs.Front.{FrontView, doomed, ending, in_order, stale_by, watched, with_parents}
use Rattle.zfront.specs.Ticking.{tick_calls}
use Rattle.zfront_laws.proofs.Ending.{Later, any_first, any_second, due_before, ending_of, pings, pings_later, tick_after}
use Rattle.zfront_laws.proofs.watches_lemmas.Away.{IsFar, Owns, close_leaves, tick_leaves}
use Rattle.zfront_laws.proofs.watches_lemmas.Standing.{In}
use Rattle.zfront_laws.proofs.watches_lemmas.Watched.{AreDistinct, Covers, among_kept, among_tied, awaits, distinct, kept_among, tied_among}

-- the path is one of these
abbrev pub is_in : Path → List Path → Bool
is_in q paths = list_any (eq_by_cmp path_cmp q) paths

-- ---- paths in order

abbrev row : Path → Path × Unit {0}
row path = (path, tt)

firsts : (paths : List Path) → map (λ (e : Path × Unit {0}). e.0) (map row paths) ≡ paths
firsts [] = refl
firsts (path ∷ paths) = ap (λ ps. path ∷ ps) (firsts paths)

in_order_same : (q : Path) (paths : List Path) → is_in q (in_order paths) ≡ is_in q paths
in_order_same q paths =
    let rows = map row paths in
    sym (finite.contains_key-keys (from_entries {R = path_cmp} rows) q) ∙ ap is_some (get-from_entries paths_total rows q)
    ∙ is_some-find path_cmp q rows ∙ ap (is_in q) (firsts paths)

in_order_once : (paths : List Path) → AreDistinct (in_order paths)
in_order_once paths = let m = from_entries {R = path_cmp} (map row paths) in distinct (finite.entries m) (entries_sorted m)

-- ---- doomed nodes are there

there_if : (test : Node → Bool) (o : Option Node) → option_map_or test o false ≡ true → is_some o ≡ true
there_if test None is = absurd (true≢false (sym is))
there_if test (Some n) is = refl

either_of : (a b : Bool) → a || b ≡ true → (a ≡ true) ⊎ (b ≡ true)
either_of true b is = inl refl
either_of false b is = inr is

in_either : (q : Path) (ps qs : List Path) → is_in q (ps ++ qs) ≡ true → (is_in q ps ≡ true) ⊎ (is_in q qs ≡ true)
in_either q ps qs is = either_of (is_in q ps) (is_in q qs) (sym (list_any-append (eq_by_cmp path_cmp q) ps qs) ∙ is)

owned_same : (nodes : Nodes) (id : ℕ) (at : Path) → is_in at (ephemerals nodes id) ≡ option_map_or (λ (n : Node). n.owner == id) (finite.get nodes at) false
owned_same nodes id at = among_entries paths_total same_path (λ (n : Node). n.owner == id) nodes at

stale_there : (t : Tree) (at : Path) → is_in at (stale_next t) ≡ true → has_node t.nodes at ≡ true
stale_there t at is =
    there_if (is_stale t.nodes (t.time + 1) at) (finite.get t.nodes at)
    (sym (among_where paths_total same_path (is_stale t.nodes (t.time + 1)) t.nodes at) ∙ is)

module _ (t : Tree) (at : Path) where
  stale_all : (calls : List Call) → is_in at (flat_map (stale_by t) calls) ≡ true → has_node t.nodes at ≡ true
  stale_all [] is = absurd (true≢false (sym is))
  stale_all (Query query ∷ calls) is = stale_all calls is
  stale_all (Update act.Tick ∷ calls) is = by (in_either at (stale_next t) (flat_map (stale_by t) calls) is) (stale_all calls)
    where
      by : (is_in at (stale_next t) ≡ true) ⊎ (is_in at (flat_map (stale_by t) calls) ≡ true)
          → (is_in at (flat_map (stale_by t) calls) ≡ true → has_node t.nodes at ≡ true) → has_node t.nodes at ≡ true
      by (inl here) rest = stale_there t at here
      by (inr there) rest = rest there
  stale_all (Update (act.Create create) ∷ calls) is = stale_all calls is
  stale_all (Update (act.Delete delete) ∷ calls) is = stale_all calls is
  stale_all (Update (act.SetData set) ∷ calls) is = stale_all calls is
  stale_all (Update (act.SetAcl set) ∷ calls) is = stale_all calls is
  stale_all (Update (act.Multi parts) ∷ calls) is = stale_all calls is
  stale_all (Update (act.Open ticks) ∷ calls) is = stale_all calls is
  stale_all (Update (act.Ping id) ∷ calls) is = stale_all calls is
  stale_all (Update (act.Close id) ∷ calls) is = stale_all calls is

  owned_if : (id : ℕ) (b : Bool) → is_in at (if b then ephemerals t.nodes id else []) ≡ true → has_node t.nodes at ≡ true
  owned_if id true is = there_if (λ (n : Node). n.owner == id) (finite.get t.nodes at) (sym (owned_same t.nodes id at) ∙ is)
  owned_if id false is = absurd (true≢false (sym is))

  owned_all : (ids : List ℕ) → is_in at (flat_map (owned_by t) ids) ≡ true → has_node t.nodes at ≡ true
  owned_all [] is = absurd (true≢false (sym is))
  owned_all (id ∷ ids) is = by (in_either at (owned_by t id) (flat_map (owned_by t) ids) is) (owned_all ids)
    where
      by : (is_in at (owned_by t id) ≡ true) ⊎ (is_in at (flat_map (owned_by t) ids) ≡ true)
          → (is_in at (flat_map (owned_by t) ids) ≡ true → has_node t.nodes at ≡ true) → has_node t.nodes at ≡ true
      by (inl here) rest = owned_if id (is_some (finite.get t.sessions id)) here
      by (inr there) rest = rest there

  doomed_there : (calls : List Call) → is_in at (doomed calls t) ≡ true → has_node t.nodes at ≡ true
  doomed_there calls is = by (in_either at (flat_map (stale_by t) calls) (flat_map (owned_by t) (ending calls t)) is)
    where
      by : (is_in at (flat_map (stale_by t) calls) ≡ true) ⊎ (is_in at (flat_map (owned_by t) (ending calls t)) ≡ true) → has_node t.nodes at ≡ true
      by (inl stale) = stale_all calls stale
      by (inr owned) = owned_all (ending calls t) owned

-- a parent of one of these
parent_in : (q : Path) (paths : List Path) → is_in q (map parent_of paths) ≡ true → (at : Path) × (is_in at paths ≡ true) × (q ≡ parent_of at)
parent_in q [] is = absurd (true≢false (sym is))
parent_in q (path ∷ paths) is = by (eq_by_cmp path_cmp q (parent_of path)) refl is (parent_in q paths)
  where
    by : (b : Bool) → eq_by_cmp path_cmp q (parent_of path) ≡ b → (b || is_in q (map parent_of paths)) ≡ true
        → (is_in q (map parent_of paths) ≡ true → (at : Path) × (is_in at paths ≡ true) × (q ≡ parent_of at))
        → (at : Path) × (is_in at (path ∷ paths) ≡ true) × (q ≡ parent_of at)
    by true ties holds rest =
        (path, ap (λ b. b || is_in path paths) (tied paths_total same_path path), tied_same paths_total same_path q (parent_of path) ties)
    by false ties holds rest =
        let more = rest holds in
        (more.0, ap (λ b. eq_by_cmp path_cmp more.0 path || b) more.1 ∙ or-true (eq_by_cmp path_cmp more.0 path), more.2)

in_parents : (q at : Path) (paths : List Path) → is_in at paths ≡ true → q ≡ parent_of at → is_in q (map parent_of paths) ≡ true
in_parents q at [] is same = absurd (true≢false (sym is))
in_parents q at (path ∷ paths) is same = by (eq_by_cmp path_cmp at path) refl is (λ more. in_parents q at paths more same)
  where
    by : (b : Bool) → eq_by_cmp path_cmp at path ≡ b → (b || is_in at paths) ≡ true
        → (is_in at paths ≡ true → is_in q (map parent_of paths) ≡ true) → is_in q (map parent_of (path ∷ paths)) ≡ true
    by true ties holds rest =
        ap (λ b. b || is_in q (map parent_of paths))
        (ap (eq_by_cmp path_cmp q) (ap parent_of (sym (tied_same paths_total same_path at path ties)) ∙ sym same) ∙ tied paths_total same_path q)
    by false ties holds rest = ap (λ b. eq_by_cmp path_cmp q (parent_of path) || b) (rest holds) ∙ or-true (eq_by_cmp path_cmp q (parent_of path))

-- where a path is neither one of these nor a parent of one
far_from : (q : Path) (paths : List Path) → is_in q (with_parents paths) ≡ false → (at : Path) → is_in at paths ≡ true → IsFar q at
far_from q paths none at among = (
  λ same. true≢false (sym (any_first (eq_by_cmp path_cmp q) paths (map parent_of paths) (ap (λ p. is_in p paths) same ∙ among)) ∙ none),
  λ same. true≢false (sym (any_second (eq_by_cmp path_cmp q) paths (map parent_of paths) (in_parents q at paths among same)) ∙ none),
)

-- ---- a look covers what calls take that leave all other nodes

module _ (calls : List Call) (old : FrontView) (lawful : IsLawful old.tree) where
  abbrev near : List Path
  near = with_parents (doomed calls old.tree)

  persists : (o : Option Node) → IsPersistent o → is_some o ≡ true
  persists o kept = ap is_some kept.1

  near_there : (q : Path) → is_in q near ≡ true → has_node old.tree.nodes q ≡ true
  near_there q is = by (in_either q (doomed calls old.tree) (map parent_of (doomed calls old.tree)) is)
    where
      by : (is_in q (doomed calls old.tree) ≡ true) ⊎ (is_in q (map parent_of (doomed calls old.tree)) ≡ true) → has_node old.tree.nodes q ≡ true
      by (inl itself) = doomed_there old.tree q calls itself
      by (inr above) =
          let child = parent_in q (doomed calls old.tree) above in
          ap (has_node old.tree.nodes) child.2
          ∙ persists (finite.get old.tree.nodes (parent_of child.0)) (lawful.parents child.0 (doomed_there old.tree child.0 calls child.1))

  pub watched_covers : (t : Tree) → ((q : Path) → is_in q near ≡ false → finite.get t.nodes q ≡ finite.get old.tree.nodes q) → Covers old t (watched calls old)
  watched_covers t stays = record {
    there = λ q among. near_there q (among_tied q near (kept_among test q near (tied_among q kept (sym (in_order_same q kept) ∙ among_tied q (in_order kept) among))));
    once = in_order_once kept;
    all = λ w q stands fired there. by w q stands fired (is_in q near) refl;
  }
    where
      test : Path → Bool
      test = is_awaited old.tables.watches NodeDeleted

      kept : List Path
      kept = filter test near

      by : (w : Watch) (q : Path) → In old.tables w → fires NodeDeleted q w ≡ true → (b : Bool) → is_in q near ≡ b
          → Among q (watched calls old) ⊎ (finite.get t.nodes q ≡ finite.get old.tree.nodes q)
      by w q stands fired true is =
          inl (tied_among q (in_order kept) (in_order_same q kept
          ∙ among_tied q kept (among_kept test q near (tied_among q near is) (awaits old.tables.watches w q stands fired))))
      by w q stands fired false is = inr (stays q is)

-- ---- a close and a tick

-- the nodes of a session that may end are doomed
level : (a b : ℕ) → a ≡ b → (a == b) ≡ true
level a b is = grind (arith, nat_tests)

owned_in : (t : Tree) (id : ℕ) (s : Session) (at : Path) → finite.get t.sessions id ≡ Some s → Owns t.nodes id at → is_in at (owned_by t id) ≡ true
owned_in t id s at there (n, found, own) =
    ap (λ o. is_in at (if is_some o then ephemerals t.nodes id else [])) there ∙ owned_same t.nodes id at
    ∙ ap (λ o. option_map_or (λ (n : Node). n.owner == id) o false) found ∙ level n.owner id own

owned_among : (t : Tree) (id : ℕ) (s : Session) (at : Path) → finite.get t.sessions id ≡ Some s → Owns t.nodes id at → (ids : List ℕ)
    → list_any (eq_by_cmp nat_cmp id) ids ≡ true → is_in at (flat_map (owned_by t) ids) ≡ true
owned_among t id s at there owns [] is = absurd (true≢false (sym is))
owned_among t id s at there owns (first ∷ ids) is =
    by (eq_by_cmp nat_cmp id first) refl is (owned_among t id s at there owns ids)
  where
    by : (b : Bool) → eq_by_cmp nat_cmp id first ≡ b → (b || list_any (eq_by_cmp nat_cmp id) ids) ≡ true
        → (list_any (eq_by_cmp nat_cmp id) ids ≡ true → is_in at (flat_map (owned_by t) ids) ≡ true)
        → is_in at (owned_by t first ++ flat_map (owned_by t) ids) ≡ true
    by true ties holds rest =
        any_first (eq_by_cmp path_cmp at) (owned_by t first) (flat_map (owned_by t) ids)
        (ap (λ i. is_in at (owned_by t i)) (sym (tied_same nat_cmp_total nat_cmp-IsAntisymmetric id first ties)) ∙ owned_in t id s at there owns)
    by false ties holds rest = any_second (eq_by_cmp path_cmp at) (owned_by t first) (flat_map (owned_by t) ids) (rest holds)

owned_doomed : (calls : List Call) (t : Tree) (id : ℕ) (s : Session) (at : Path) → finite.get t.sessions id ≡ Some s → Owns t.nodes id at
    → list_any (eq_by_cmp nat_cmp id) (ending calls t) ≡ true → is_in at (doomed calls t) ≡ true
owned_doomed calls t id s at there owns listed =
    any_second (eq_by_cmp path_cmp at) (flat_map (stale_by t) calls) (flat_map (owned_by t) (ending calls t))
    (owned_among t id s at there owns (ending calls t) listed)

pub close_covers : (session : ℕ) (old : FrontView) → IsLawful old.tree
    → Covers old (tree_after old.tree (Update (act.Close session) ∷ [])) (watched (Update (act.Close session) ∷ []) old)
close_covers session old lawful =
    let calls = Update (act.Close session) ∷ [] in
    watched_covers calls old lawful (tree_after old.tree calls)
    (λ q none. close_leaves q old.tree session
    (λ s there at owns. far_from q (doomed calls old.tree) none at
    (owned_doomed calls old.tree session s at there owns (ap (λ b. b || false) (tied nat_cmp_total nat_cmp-IsAntisymmetric session)))))

stale_of : (ids : List ℕ) (t : Tree) → flat_map (stale_by t) (tick_calls ids) ≡ stale_next t ++ []
stale_of [] t = refl
stale_of (id ∷ ids) t = stale_of ids t

module _ (ids : List ℕ) (old : FrontView) (can : CanStart old.tree) where
  abbrev calls : List Call
  calls = tick_calls ids

  abbrev t : Tree
  t = old.tree

  abbrev u : Tree
  u = tree_after t (pings ids)

  later : Later t u
  later = pings_later ids t can

  stale_same : stale_next u ≡ stale_next t
  stale_same =
      ap (λ nodes. stale_next (record u { nodes = nodes })) later.nodes ∙ ap (λ time. stale_next (record t { time = time })) later.time

  stale_doomed : (at : Path) → is_in at (stale_next u) ≡ true → is_in at (doomed calls t) ≡ true
  stale_doomed at is =
      any_first (eq_by_cmp path_cmp at) (flat_map (stale_by t) calls) (flat_map (owned_by t) (ending calls t))
      (ap (is_in at) (stale_of ids t) ∙ any_first (eq_by_cmp path_cmp at) (stale_next t) [] (ap (is_in at) (sym stale_same) ∙ is))

  due_there : (id : ℕ) → list_any (eq_by_cmp nat_cmp id) (due_next t) ≡ true → (s : Session) × (finite.get t.sessions id ≡ Some s)
  due_there id is = by (finite.get t.sessions id) refl
      (sym (among_entries nat_cmp_total nat_cmp-IsAntisymmetric (λ (s : Session). nat_le s.deadline (t.time + 1)) t.sessions id) ∙ is)
    where
      by : (o : Option Session) → finite.get t.sessions id ≡ o → option_map_or (λ (s : Session). nat_le s.deadline (t.time + 1)) o false ≡ true
          → (s : Session) × (finite.get t.sessions id ≡ Some s)
      by None none due = absurd (true≢false (sym due))
      by (Some s) found due = (s, found)

  due_doomed : (id : ℕ) (at : Path) → list_any (eq_by_cmp nat_cmp id) (due_next u) ≡ true → Owns u.nodes id at → is_in at (doomed calls t) ≡ true
  due_doomed id at due owns =
      let before = due_before t u later id due in
      let s = due_there id before in
      owned_doomed calls t id s.0 at s.1 (subst (λ nodes. Owns nodes id at) later.nodes owns)
      (ap (list_any (eq_by_cmp nat_cmp id)) (ending_of ids t) ∙ any_first (eq_by_cmp nat_cmp id) (due_next t) [] before)

  pub tick_covers : Covers old (tree_after t calls) (watched calls old)
  tick_covers =
      watched_covers calls old can.lawful (tree_after t calls)
      (λ q none.
      ap (λ (v : Tree). finite.get v.nodes q) (tick_after ids t)
      ∙ tick_leaves q u (λ id at due owns. far_from q (doomed calls t) none at (due_doomed id at due owns))
      (λ at stale. far_from q (doomed calls t) none at (stale_doomed at stale))
      ∙ ap (λ nodes. finite.get nodes q) later.nodes)
