-- What is there after the session end: which nodes and sessions, and what changed of the nodes that stay.
use Rattle.std.proofs.Common.{◌≡◌, ◌≢◌, ◌⊎◌, inl, inr, ℕ, ◌≤◌, ◌+◌, Bool, true, false, cond, not, ◌||◌, List, [], ◌∷◌, length, Option, Some, None, refl, sym, ap, subst, ◌∙◌, arith}
use Rattle.std.specs.declared.cmp.Ordering.{Ordering}
use Rattle.std.specs.Ordering.{eq_by_cmp, nat_cmp}
use Rattle.std.specs.Prelude.{is_some, nat_le, ◌==◌}
use Rattle.std.specs.Option.{option_map_or, option_and_then}
use Rattle.std.specs.List.{AllByRecursion, list_any}
use Rattle.std.specs.Cmp.{IsTotalOrder, nat_cmp_total}
use Rattle.std.specs.FinMap as finite
use Rattle.std.specs.FinMap.{FinMap, IsAntisymmetric, nat_cmp-IsAntisymmetric, get-insert, get-remove}
use Rattle.zpath.specs.Grammar.{path_cmp}
use Rattle.ztree.specs.declared.node.Node.{Node}
use Rattle.ztree.specs.declared.session.Session.{Session}
use Rattle.ztree.specs.Tree.{Tree, Path, Nodes, parent_of, has_node, with_change_at, without_child, ephemerals, without_node}
use Rattle.ztree.specs.Sessions.{without_nodes, without_session, without_sessions, due_sessions}
use Rattle.ztree.proofs.Sorted.{paths_total, same_path}
use Rattle.ztree.proofs.Maps.{same_some, none_some, get-removed, none_of_map, tied_same, get-inserted}
use Rattle.ztree.proofs.Among.{keys_where, among_where, all_where}

-- nodes taken away leave the sessions
pub sessions-all_dropped : (t : Tree) (paths : List Path) → (without_nodes t paths).sessions ≡ t.sessions
sessions-all_dropped t [] = refl
sessions-all_dropped t (path ∷ paths) = sessions-all_dropped (without_node t path) paths

-- ends leave the clock
pub time-all_dropped : (t : Tree) (paths : List Path) → (without_nodes t paths).time ≡ t.time
time-all_dropped t [] = refl
time-all_dropped t (path ∷ paths) = time-all_dropped (without_node t path) paths

pub time-all_ended : (t : Tree) (ids : List ℕ) → (without_sessions t ids).time ≡ t.time
time-all_ended t [] = refl
time-all_ended t (id ∷ ids) = time-all_ended (without_session t id) ids ∙ time-all_dropped t (ephemerals t.nodes id)

module _ {K X : Type 0} {R : K → K → Ordering} (o : IsTotalOrder R) (same : IsAntisymmetric R) (test : X → Bool) where
  -- a key is among those whose values pass a test where what is found there passes
  pub among_entries : (m : FinMap R X) (q : K) → list_any (eq_by_cmp R q) (keys_where (λ _. test) (finite.entries m)) ≡ option_map_or test (finite.get m q) false
  among_entries m q = among_where o same (λ _. test) m q

  -- what holds of all keys holds of them
  pub all_entries : (P : K → Type 0) (m : FinMap R X) → ((q : K) (x : X) → finite.get m q ≡ Some x → P q) → AllByRecursion P (keys_where (λ _. test) (finite.entries m))
  all_entries P m all = all_where o same (λ _. test) P m (λ q x found passes. all q x found)

-- a session is there after the end of several where it was and isn't among them
pub sessions-all_ended : (t : Tree) (ids : List ℕ) (id : ℕ) → finite.get (without_sessions t ids).sessions id ≡ cond (list_any (eq_by_cmp nat_cmp id) ids) None (finite.get t.sessions id)
sessions-all_ended t [] id = refl
sessions-all_ended t (first ∷ ids) id =
    sessions-all_ended (without_session t first) ids id
    ∙ ap (cond (list_any (eq_by_cmp nat_cmp id) ids) None) (get-remove nat_cmp_total t.sessions first id)
    ∙ either (eq_by_cmp nat_cmp id first) (list_any (eq_by_cmp nat_cmp id) ids)
  where
    either : (a b : Bool) → cond b None (cond a None (finite.get t.sessions id)) ≡ cond (a || b) None (finite.get t.sessions id)
    either true true = refl
    either true false = refl
    either false true = refl
    either false false = refl

-- after the end of all that are due it is there where it was and isn't due
pub sessions-due_ended : (t : Tree) (tick id : ℕ) → finite.get (without_sessions t (due_sessions t.sessions tick)).sessions id ≡ option_and_then (λ (s : Session). cond (nat_le s.deadline tick) None (Some s)) (finite.get t.sessions id)
sessions-due_ended t tick id =
    sessions-all_ended t (due_sessions t.sessions tick) id
    ∙ ap (λ b. cond b None (finite.get t.sessions id)) (among_entries nat_cmp_total nat_cmp-IsAntisymmetric (λ (s : Session). nat_le s.deadline tick) t.sessions id)
    ∙ by (finite.get t.sessions id)
  where
    by : (o : Option Session) → cond (option_map_or (λ (s : Session). nat_le s.deadline tick) o false) None o ≡ option_and_then (λ (s : Session). cond (nat_le s.deadline tick) None (Some s)) o
    by None = refl
    by (Some s) = refl

-- so then none is due
pub none_due : (t : Tree) (tick : ℕ) → due_sessions (without_sessions t (due_sessions t.sessions tick)).sessions tick ≡ []
none_due t tick = none_of_map nat_cmp_total nat_cmp-IsAntisymmetric _ (without_sessions t (due_sessions t.sessions tick)).sessions (λ id s found. by id s (finite.get t.sessions id) (sym (sessions-due_ended t tick id) ∙ found))
  where
    of_one : (id : ℕ) (s x : Session) (b : Bool) → nat_le x.deadline tick ≡ b → cond b None (Some x) ≡ Some s → cond (nat_le s.deadline tick) (Some id) None ≡ None
    of_one id s x true is found = absurd (none_some s found)
    of_one id s x false is found =
        let same : x ≡ s = same_some x s found in
        ap (λ (y : Session). cond (nat_le y.deadline tick) (Some id) None) (sym same) ∙ ap (λ b. cond b (Some id) None) is

    by : (id : ℕ) (s : Session) (o : Option Session) → option_and_then (λ (x : Session). cond (nat_le x.deadline tick) None (Some x)) o ≡ Some s → cond (nat_le s.deadline tick) (Some id) None ≡ None
    by id s None found = absurd (none_some s found)
    by id s (Some x) found = of_one id s x (nat_le x.deadline tick) refl found

-- a change of a node leaves which nodes are there
pub has_node-changed : (nodes : Nodes) (path : Path) (f : Node → Node) (q : Path) → has_node (with_change_at nodes path f) q ≡ has_node nodes q
has_node-changed nodes path f q = by (finite.get nodes path) refl
  where
    here : (n : Node) → finite.get nodes path ≡ Some n → (b : Bool) → eq_by_cmp path_cmp q path ≡ b → is_some (cond b (Some (f n)) (finite.get nodes q)) ≡ has_node nodes q
    here n e false other = refl
    here n e true tied = sym (ap is_some (ap (finite.get nodes) (tied_same paths_total same_path q path tied) ∙ e))

    by : (o : Option Node) → finite.get nodes path ≡ o → has_node (option_map_or (λ n. finite.insert nodes path (f n)) o nodes) q ≡ has_node nodes q
    by None e = refl
    by (Some n) e = ap is_some (get-insert paths_total nodes path (f n) q) ∙ here n e (eq_by_cmp path_cmp q path) refl

-- a node taken away is there no more, and the others are
pub has_node-dropped : (t : Tree) (path q : Path) → has_node (without_node t path).nodes q ≡ cond (eq_by_cmp path_cmp q path) false (has_node t.nodes q)
has_node-dropped t path q =
    has_node-changed (finite.remove t.nodes path) (parent_of path) (without_child (t.zxid + 1)) q
    ∙ ap is_some (get-remove paths_total t.nodes path q)
    ∙ by (eq_by_cmp path_cmp q path)
  where
    by : (b : Bool) → is_some (cond b None (finite.get t.nodes q)) ≡ cond b false (has_node t.nodes q)
    by true = refl
    by false = refl

pub has_node-all_dropped : (t : Tree) (paths : List Path) (q : Path) → has_node (without_nodes t paths).nodes q ≡ cond (list_any (eq_by_cmp path_cmp q) paths) false (has_node t.nodes q)
has_node-all_dropped t [] q = refl
has_node-all_dropped t (path ∷ paths) q =
    has_node-all_dropped (without_node t path) paths q
    ∙ ap (cond (list_any (eq_by_cmp path_cmp q) paths) false) (has_node-dropped t path q)
    ∙ either (eq_by_cmp path_cmp q path) (list_any (eq_by_cmp path_cmp q) paths)
  where
    either : (a b : Bool) → cond b false (cond a false (has_node t.nodes q)) ≡ cond (a || b) false (has_node t.nodes q)
    either true true = refl
    either true false = refl
    either false true = refl
    either false false = refl

-- after a session's end a node is there where it was and the session doesn't own it
pub has_node-ended : (t : Tree) (id : ℕ) (path : Path) → has_node (without_session t id).nodes path ≡ option_map_or (λ (n : Node). not (n.owner == id)) (finite.get t.nodes path) false
has_node-ended t id path =
    has_node-all_dropped t (ephemerals t.nodes id) path
    ∙ ap (λ b. cond b false (has_node t.nodes path)) (among_entries paths_total same_path (λ (n : Node). n.owner == id) t.nodes path)
    ∙ by (finite.get t.nodes path)
  where
    turned : (b : Bool) → cond b false true ≡ not b
    turned true = refl
    turned false = refl

    by : (o : Option Node) → cond (option_map_or (λ (n : Node). n.owner == id) o false) false (is_some o) ≡ option_map_or (λ (n : Node). not (n.owner == id)) o false
    by None = refl
    by (Some n) = turned (n.owner == id)

-- a node that lost at most that many children is otherwise what it was
pub record HasLost (most : ℕ) (n m : Node) : Type 0 where
  pub same : m ≡ record n { pzxid = m.pzxid; cversion = m.cversion }
  pub rises : n.cversion ≤ m.cversion
  pub bound : m.cversion ≤ n.cversion + most

has_lost_none : (most : ℕ) (n : Node) → HasLost most n n
has_lost_none most n = record { same = refl; rises = omega arith; bound = omega arith }

-- what is found after a node was taken away was there, and lost one child at most
pub found-dropped : (t : Tree) (path q : Path) (m : Node) → finite.get (without_node t path).nodes q ≡ Some m → (n : Node) × (finite.get t.nodes q ≡ Some n) × HasLost 1 n m
found-dropped t path q m found = by (finite.get (finite.remove t.nodes path) (parent_of path)) refl found
  where
    before : (n : Node) → finite.get (finite.remove t.nodes path) q ≡ Some n → finite.get t.nodes q ≡ Some n
    before n e = (get-removed paths_total same_path t.nodes path q n e).1

    changed : (old : Node) → finite.get (finite.remove t.nodes path) (parent_of path) ≡ Some old → ((q ≡ parent_of path) × (without_child (t.zxid + 1) old ≡ m)) ⊎ ((q ≢ parent_of path) × (finite.get (finite.remove t.nodes path) q ≡ Some m)) → (n : Node) × (finite.get t.nodes q ≡ Some n) × HasLost 1 n m
    changed old e (inl is) = (old, before old (ap (finite.get (finite.remove t.nodes path)) is.0 ∙ e), subst (HasLost 1 old) is.1 (record { same = refl; rises = omega arith; bound = omega arith }))
    changed old e (inr other) = (m, before m other.1, has_lost_none 1 m)

    by : (o : Option Node) → finite.get (finite.remove t.nodes path) (parent_of path) ≡ o → finite.get (option_map_or (λ n. finite.insert (finite.remove t.nodes path) (parent_of path) (without_child (t.zxid + 1) n)) o (finite.remove t.nodes path)) q ≡ Some m → (n : Node) × (finite.get t.nodes q ≡ Some n) × HasLost 1 n m
    by None e is = (m, before m is, has_lost_none 1 m)
    by (Some old) e is = changed old e (get-inserted paths_total same_path (finite.remove t.nodes path) (parent_of path) (without_child (t.zxid + 1) old) q m is)

lost_both : (a b : ℕ) (l n m : Node) → HasLost a l n → HasLost b n m → HasLost (a + b) l m
lost_both a b l n m first then =
    record {
      same = then.same ∙ ap (λ (x : Node). record x { pzxid = m.pzxid; cversion = m.cversion }) first.same;
      rises = omega (arith, first.rises, then.rises);
      bound = omega (arith, first.bound, then.bound);
    }

-- what is found after nodes were taken away was there, and lost no more children than that many
pub found-all_dropped : (t : Tree) (paths : List Path) (q : Path) (m : Node) → finite.get (without_nodes t paths).nodes q ≡ Some m → (n : Node) × (finite.get t.nodes q ≡ Some n) × HasLost (length paths) n m
found-all_dropped t [] q m found = (m, found, has_lost_none 0 m)
found-all_dropped t (path ∷ paths) q m found =
    let n = found-all_dropped (without_node t path) paths q m found in
    let l = found-dropped t path q n.0 n.1 in
    (l.0, l.1, subst (λ k. HasLost k l.0 m) (omega arith) (lost_both 1 (length paths) l.0 n.0 m l.2 n.2))

-- what is found after a session's end was there, and lost no more children than the session owned nodes
pub found-ended : (t : Tree) (id : ℕ) (q : Path) (m : Node) → finite.get (without_session t id).nodes q ≡ Some m → (n : Node) × (finite.get t.nodes q ≡ Some n) × HasLost (length (ephemerals t.nodes id)) n m
found-ended t id q m found = found-all_dropped t (ephemerals t.nodes id) q m found
