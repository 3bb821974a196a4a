-- What preserves that a tree is lawful: each change of a tree, where its conditions are met.
use Rattle.std.proofs.Common.{◌≡◌, ◌≢◌, ◌⊎◌, inl, inr, ℕ, ◌<◌, ◌≤◌, ◌+◌, Bool, true, false, cond, List, [], Option, Some, None, IsSome, refl, sym, ap, subst, ◌∙◌, arith}
use Rattle.std.specs.Prelude.{is_some, nat_le}
use Rattle.std.specs.Option.{option_map_or}
use Rattle.std.specs.Ordering.{nat_cmp}
use Rattle.std.specs.Cmp.{nat_cmp_total}
use Rattle.std.specs.FinMap as finite
use Rattle.std.specs.FinMap.{nat_cmp-IsAntisymmetric, get-empty, len-empty}
use Rattle.std.proofs.lemmas.Bool.Decides.{nat_tests}
use Rattle.zpath.specs.Grammar.{path_cmp}
use Rattle.ztree.specs.declared.term.Term.{Term}
use Rattle.ztree.specs.declared.term.Term.TheVariants.{Unlimited}
use Rattle.ztree.specs.declared.limits.TreeLimits.{TreeLimits}
use Rattle.ztree.specs.Limits.{AreLimits}
use Rattle.ztree.specs.declared.node.Node.{Node}
use Rattle.ztree.specs.declared.session.Session.{Session}
use Rattle.ztree.specs.Tree.{Tree, Path, Nodes, Sessions, opening_within, new_node, parent_of, has_node, children, with_change_at, with_child, with_node, without_child, without_node, with_data, with_data_at, with_next_zxid}
use Rattle.ztree.specs.Sessions.{new_session, with_session, renewed_session, with_renewed_session, due_sessions, with_next_tick}
use Rattle.ztree.specs.Lawful.{IsPersistent, IsOwner, HasOneEnd, IsLawful}
use Rattle.ztree.proofs.Sorted.{paths_total, same_path}
use Rattle.ztree.proofs.Children.{children_gone}
use Rattle.ztree.proofs.Maps.{same_some, none_some, has_some, is_there, same_or_other, get-insert-here, get-insert-elsewhere, get-remove-elsewhere, get-removed, get-inserted, len-insert-most, len-insert-there, len-remove-most, none_of_entries}

not_true : true ≡ false → ⊥
not_true e = cc

-- a persistent node is there
there : (o : Option Node) → IsPersistent o → is_some o ≡ true
there o p = is_there o p.0 p.1

-- the same owner and term
same_ends : (n m : Node) → n.owner ≡ m.owner → n.term ≡ m.term → HasOneEnd m → HasOneEnd n
same_ends n m owner term (inl none) = inl (term ∙ none)
same_ends n m owner term (inr nobody) = inr (owner ∙ nobody)

module _ (t : Tree) (path : Path) (new : Node) (lawful : IsLawful t) where
  -- one more node, where its parent is persistent, its owner no one or a session, and its end one
  -- or none
  pub lawful_inserted : has_node t.nodes path ≡ false → IsPersistent (finite.get t.nodes (parent_of path)) → IsOwner t.sessions new.owner → HasOneEnd new → finite.len t.nodes < t.limits.nodes → IsLawful (record t { nodes = finite.insert t.nodes path new })
  lawful_inserted free parent owner one few =
      record {
        root = stays [] lawful.root;
        root_stays = λ n e. still n (get-inserted paths_total same_path t.nodes path new [] n e);
        parents = λ q is. parent_of_each q (has_some _ is);
        owners = λ q n e. owner_of n (get-inserted paths_total same_path t.nodes path new q n e);
        ends = λ q n e. end_of n (get-inserted paths_total same_path t.nodes path new q n e);
        ids = lawful.ids;
        deadlines = lawful.deadlines;
        few_nodes = len-insert-most paths_total same_path t.nodes path new t.limits.nodes few;
        few_sessions = lawful.few_sessions;
        allowed = lawful.allowed;
      }
    where
      stays : (q : Path) → IsPersistent (finite.get t.nodes q) → IsPersistent (finite.get (finite.insert t.nodes path new) q)
      stays q p = subst IsPersistent (sym (get-insert-elsewhere paths_total same_path t.nodes path new q (λ e. not_true (sym (there _ p) ∙ ap (has_node t.nodes) e ∙ free)))) p

      parent_of_each : (q : Path) → (n : Node) × (finite.get (finite.insert t.nodes path new) q ≡ Some n) → IsPersistent (finite.get (finite.insert t.nodes path new) (parent_of q))
      parent_of_each q (n, e) = by (get-inserted paths_total same_path t.nodes path new q n e)
        where
          by : ((q ≡ path) × (new ≡ n)) ⊎ ((q ≢ path) × (finite.get t.nodes q ≡ Some n)) → IsPersistent (finite.get (finite.insert t.nodes path new) (parent_of q))
          by (inl is) = stays (parent_of q) (subst (λ p. IsPersistent (finite.get t.nodes (parent_of p))) (sym is.0) parent)
          by (inr old) = stays (parent_of q) (lawful.parents q (is_there _ n old.1))

      owner_of : (n : Node) {q : Path} → ((q ≡ path) × (new ≡ n)) ⊎ ((q ≢ path) × (finite.get t.nodes q ≡ Some n)) → IsOwner t.sessions n.owner
      owner_of n (inl is) = subst (λ (m : Node). IsOwner t.sessions m.owner) is.1 owner
      owner_of n {q} (inr old) = lawful.owners q n old.1

      end_of : (n : Node) {q : Path} → ((q ≡ path) × (new ≡ n)) ⊎ ((q ≢ path) × (finite.get t.nodes q ≡ Some n)) → HasOneEnd n
      end_of n (inl is) = subst HasOneEnd is.1 one
      end_of n {q} (inr old) = lawful.ends q n old.1

      still : (n : Node) → (([] ≡ path) × (new ≡ n)) ⊎ (([] ≢ path) × (finite.get t.nodes [] ≡ Some n)) → n.term ≡ Unlimited
      still n (inl is) = absurd (not_true (sym (there _ lawful.root) ∙ ap (has_node t.nodes) is.0 ∙ free))
      still n (inr old) = lawful.root_stays n old.1

module _ (t : Tree) (path : Path) (f : Node → Node) (keeps : (n : Node) → ((f n).owner ≡ n.owner) × ((f n).term ≡ n.term)) (lawful : IsLawful t) where
  module _ (old : Node) (found : finite.get t.nodes path ≡ Some old) where
    abbrev written_nodes : Nodes
    written_nodes = finite.insert t.nodes path (f old)

    still_persistent : (q : Path) → IsPersistent (finite.get t.nodes q) → IsPersistent (finite.get written_nodes q)
    still_persistent q p = by (same_or_other paths_total same_path q path)
      where
        by : (q ≡ path) ⊎ (q ≢ path) → IsPersistent (finite.get written_nodes q)
        by (inl is) =
            let here : old ≡ p.0 = same_some old p.0 (sym found ∙ ap (finite.get t.nodes) (sym is) ∙ p.1) in
            (f old, ap (finite.get written_nodes) is ∙ get-insert-here paths_total same_path t.nodes path (f old), (keeps old).0 ∙ ap (λ (n : Node). n.owner) here ∙ p.2)
        by (inr other) = subst IsPersistent (sym (get-insert-elsewhere paths_total same_path t.nodes path (f old) q other)) p

    before : (q : Path) (n : Node) → finite.get written_nodes q ≡ Some n → (m : Node) × (finite.get t.nodes q ≡ Some m) × (n.owner ≡ m.owner) × (n.term ≡ m.term)
    before q n e = by (get-inserted paths_total same_path t.nodes path (f old) q n e)
      where
        by : ((q ≡ path) × (f old ≡ n)) ⊎ ((q ≢ path) × (finite.get t.nodes q ≡ Some n)) → (m : Node) × (finite.get t.nodes q ≡ Some m) × (n.owner ≡ m.owner) × (n.term ≡ m.term)
        by (inl is) = (old, ap (finite.get t.nodes) is.0 ∙ found, ap (λ (m : Node). m.owner) (sym is.1) ∙ (keeps old).0, ap (λ (m : Node). m.term) (sym is.1) ∙ (keeps old).1)
        by (inr other) = (n, other.1, refl, refl)

    lawful_there : IsLawful (record t { nodes = written_nodes })
    lawful_there =
        record {
          root = still_persistent [] lawful.root;
          root_stays = λ n e. let m = before [] n e in m.3 ∙ lawful.root_stays m.0 m.1;
          parents = λ q is. let n = has_some _ is in let m = before q n.0 n.1 in still_persistent (parent_of q) (lawful.parents q (is_there _ m.0 m.1));
          owners = λ q n e. let m = before q n e in subst (IsOwner t.sessions) (sym m.2) (lawful.owners q m.0 m.1);
          ends = λ q n e. let m = before q n e in same_ends n m.0 m.2 m.3 (lawful.ends q m.0 m.1);
          ids = lawful.ids;
          deadlines = lawful.deadlines;
          few_nodes = len-insert-there paths_total same_path t.nodes path (f old) old t.limits.nodes found lawful.few_nodes;
          few_sessions = lawful.few_sessions;
          allowed = lawful.allowed;
        }

  -- one node changed, by a change that leaves its owner and its time to live
  pub lawful_changed : IsLawful (record t { nodes = with_change_at t.nodes path f })
  lawful_changed = by (finite.get t.nodes path) refl
    where
      by : (o : Option Node) → finite.get t.nodes path ≡ o → IsLawful (record t { nodes = option_map_or (λ n. finite.insert t.nodes path (f n)) o t.nodes })
      by None e = lawful
      by (Some old) e = lawful_there old e

module _ (t : Tree) (path : Path) (lawful : IsLawful t) where
  -- a leaf below the root taken away
  pub lawful_removed : path ≢ [] → children t.nodes path ≡ [] → IsLawful (record t { nodes = finite.remove t.nodes path })
  lawful_removed below leaf =
      record {
        root = stays [] (λ e. below (sym e)) lawful.root;
        root_stays = λ n e. lawful.root_stays n (get-removed paths_total same_path t.nodes path [] n e).1;
        parents = λ q is. let n = has_some _ is in let old = get-removed paths_total same_path t.nodes path q n.0 n.1 in
            stays (parent_of q) (above q n.0 old.1) (lawful.parents q (is_there _ n.0 old.1));
        owners = λ q n e. lawful.owners q n (get-removed paths_total same_path t.nodes path q n e).1;
        ends = λ q n e. lawful.ends q n (get-removed paths_total same_path t.nodes path q n e).1;
        ids = lawful.ids;
        deadlines = lawful.deadlines;
        few_nodes = len-remove-most paths_total same_path t.nodes path t.limits.nodes lawful.few_nodes;
        few_sessions = lawful.few_sessions;
        allowed = lawful.allowed;
      }
    where
      stays : (q : Path) → q ≢ path → IsPersistent (finite.get t.nodes q) → IsPersistent (finite.get (finite.remove t.nodes path) q)
      stays q other p = subst IsPersistent (sym (get-remove-elsewhere paths_total same_path t.nodes path q other)) p

      above : (q : Path) (n : Node) → finite.get t.nodes q ≡ Some n → parent_of q ≢ path
      above q n e = children_gone t.nodes path q n below leaf e

-- the initial state is lawful within any limits that a tree can have
pub lawful_opening : (limits : TreeLimits) → AreLimits limits → IsLawful (opening_within limits)
lawful_opening limits allowed =
    lawful_root
  where
    root : Node
    root = new_node [] 0 Unlimited 0 0

    found : finite.get (opening_within limits).nodes [] ≡ Some root
    found = get-insert-here paths_total same_path finite.empty [] root

    only : (q : Path) (n : Node) → finite.get (opening_within limits).nodes q ≡ Some n → (q ≡ []) × (root ≡ n)
    only q n e = by (get-inserted paths_total same_path finite.empty [] root q n e)
      where
        by : ((q ≡ []) × (root ≡ n)) ⊎ ((q ≢ []) × (finite.get (finite.empty {R = path_cmp}) q ≡ Some n)) → (q ≡ []) × (root ≡ n)
        by (inl is) = is
        by (inr old) = absurd (none_some n (sym (get-empty path_cmp q) ∙ old.1))

    none : (id : ℕ) (s : Session) → finite.get (opening_within limits).sessions id ≡ Some s → ⊥
    none id s e = none_some s (sym (get-empty nat_cmp id) ∙ e)

    lawful_root : IsLawful (opening_within limits)
    lawful_root =
        record {
          root = (root, found, refl);
          root_stays = λ n e. ap (λ (m : Node). m.term) (sym (only [] n e).1);
          parents = λ q is. let n = has_some _ is in subst (λ p. IsPersistent (finite.get (opening_within limits).nodes (parent_of p))) (sym (only q n.0 n.1).0) (root, found, refl);
          owners = λ q n e. inl (ap (λ (m : Node). m.owner) (sym (only q n e).1));
          ends = λ q n e. inl (ap (λ (m : Node). m.term) (sym (only q n e).1));
          ids = λ id s e. absurd (none id s e);
          deadlines = λ id s e. absurd (none id s e);
          few_nodes = len-insert-most paths_total same_path finite.empty [] root limits.nodes (rw (len-empty path_cmp Node) allowed.some_nodes);
          few_sessions = rw (len-empty nat_cmp Session) (omega arith);
          allowed = allowed;
        }

-- a new node beneath a persistent one, of no one or of a session, where a session's has an unlimited
-- term
pub lawful_added : (t : Tree) (path : Path) (bytes : List ℕ) (owner : ℕ) (term : Term) (sequential : Bool) → IsLawful t → has_node t.nodes path ≡ false → IsPersistent (finite.get t.nodes (parent_of path)) → IsOwner t.sessions owner → (term ≡ Unlimited) ⊎ (owner ≡ 0) → finite.len t.nodes < t.limits.nodes → IsLawful (with_node t path bytes owner term sequential)
lawful_added t path bytes owner term sequential lawful free parent is_owner one few =
    let new = new_node bytes owner term (t.zxid + 1) t.time in
    lawful_changed (record t { nodes = finite.insert t.nodes path new }) (parent_of path) (with_child (t.zxid + 1) sequential) (λ n. (refl, refl)) (lawful_inserted t path new lawful free parent is_owner one few)

-- a leaf below the root taken away
pub lawful_dropped : (t : Tree) (path : Path) → IsLawful t → path ≢ [] → children t.nodes path ≡ [] → IsLawful (without_node t path)
lawful_dropped t path lawful below leaf =
    lawful_changed (record t { nodes = finite.remove t.nodes path }) (parent_of path) (without_child (t.zxid + 1)) (λ n. (refl, refl)) (lawful_removed t path lawful below leaf)

-- data written
pub lawful_written : (t : Tree) (path : Path) (bytes : List ℕ) → IsLawful t → IsLawful (with_data_at t path bytes)
lawful_written t path bytes lawful = lawful_changed t path (with_data bytes (t.zxid + 1) t.time) (λ n. (refl, refl)) lawful

-- a change counted
pub lawful_raised : (t : Tree) → IsLawful t → IsLawful (with_next_zxid t)
lawful_raised t lawful =
    record { root = lawful.root; root_stays = lawful.root_stays; parents = lawful.parents; owners = lawful.owners; ends = lawful.ends; ids = lawful.ids; deadlines = lawful.deadlines; few_nodes = lawful.few_nodes; few_sessions = lawful.few_sessions; allowed = lawful.allowed }

-- a session under an id above 0, whose deadline is to come
pub lawful_session : (t : Tree) (id : ℕ) (new : Session) → IsLawful t → 0 < id → t.time < new.deadline → finite.len (finite.insert t.sessions id new) ≤ t.limits.sessions → IsLawful (record t { sessions = finite.insert t.sessions id new })
lawful_session t id new lawful above later few =
    record {
      root = lawful.root;
      root_stays = lawful.root_stays;
      parents = lawful.parents;
      owners = λ q n e. stays n.owner (lawful.owners q n e);
      ends = lawful.ends;
      ids = λ k s e. id_above k (get-inserted nat_cmp_total nat_cmp-IsAntisymmetric t.sessions id new k s e);
      deadlines = λ k s e. deadline_later s (get-inserted nat_cmp_total nat_cmp-IsAntisymmetric t.sessions id new k s e);
      few_nodes = lawful.few_nodes;
      few_sessions = few;
      allowed = lawful.allowed;
    }
  where
    more : Sessions
    more = finite.insert t.sessions id new

    still : (owner : ℕ) → IsSome (finite.get t.sessions owner) → IsSome (finite.get more owner)
    still owner is = by (same_or_other nat_cmp_total nat_cmp-IsAntisymmetric owner id)
      where
        by : (owner ≡ id) ⊎ (owner ≢ id) → IsSome (finite.get more owner)
        by (inl e) = rw (e, get-insert-here nat_cmp_total nat_cmp-IsAntisymmetric t.sessions id new) refl
        by (inr other) = rw (get-insert-elsewhere nat_cmp_total nat_cmp-IsAntisymmetric t.sessions id new owner other) is

    stays : (owner : ℕ) → IsOwner t.sessions owner → IsOwner more owner
    stays owner (inl nobody) = inl nobody
    stays owner (inr lives) = inr (still owner lives)

    id_above : (k : ℕ) {s : Session} → ((k ≡ id) × (new ≡ s)) ⊎ ((k ≢ id) × (finite.get t.sessions k ≡ Some s)) → 0 < k
    id_above k (inl is) = subst (λ n. 0 < n) (sym is.0) above
    id_above k {s} (inr old) = lawful.ids k s old.1

    deadline_later : (s : Session) {k : ℕ} → ((k ≡ id) × (new ≡ s)) ⊎ ((k ≢ id) × (finite.get t.sessions k ≡ Some s)) → t.time < s.deadline
    deadline_later s (inl is) = subst (λ (x : Session). t.time < x.deadline) is.1 later
    deadline_later s {k} (inr old) = lawful.deadlines k s old.1

-- a session opened for at least one tick
pub lawful_opened : (t : Tree) (client timeout : ℕ) → IsLawful t → 0 < timeout → finite.len t.sessions < t.limits.sessions → IsLawful (with_session t client timeout)
lawful_opened t client timeout lawful some few =
    let new = new_session client timeout t.time in
    lawful_session t (t.zxid + 1) new lawful (omega arith) (omega (arith, some)) (len-insert-most nat_cmp_total nat_cmp-IsAntisymmetric t.sessions (t.zxid + 1) new t.limits.sessions few)

-- a session renewed for at least one tick
pub lawful_touched : (t : Tree) (id : ℕ) → IsLawful t → ((s : Session) → finite.get t.sessions id ≡ Some s → 0 < s.timeout) → IsLawful (with_renewed_session t id)
lawful_touched t id lawful some = by (finite.get t.sessions id) refl
  where
    by : (o : Option Session) → finite.get t.sessions id ≡ o → IsLawful (record t { sessions = option_map_or (λ s. finite.insert t.sessions id (renewed_session t.time s)) o t.sessions })
    by None e = lawful
    by (Some s) e =
        let ticks = some s e in
        lawful_session t id (renewed_session t.time s) lawful (lawful.ids id s e) (omega (arith, ticks)) (len-insert-there nat_cmp_total nat_cmp-IsAntisymmetric t.sessions id (renewed_session t.time s) s t.limits.sessions e lawful.few_sessions)

-- one tick more, where no session is due
pub lawful_advanced : (t : Tree) → IsLawful t → due_sessions t.sessions (t.time + 1) ≡ [] → IsLawful (with_next_tick t)
lawful_advanced t lawful none =
    record {
      root = lawful.root;
      root_stays = lawful.root_stays;
      parents = lawful.parents;
      owners = lawful.owners;
      ends = lawful.ends;
      ids = lawful.ids;
      deadlines = λ id s e. beyond id s (none_of_entries nat_cmp_total nat_cmp-IsAntisymmetric _ t.sessions id s none e);
      few_nodes = lawful.few_nodes;
      few_sessions = lawful.few_sessions;
      allowed = lawful.allowed;
    }
  where
    beyond : (id : ℕ) (s : Session) → cond (nat_le s.deadline (t.time + 1)) (Some id) None ≡ None → t.time + 1 < s.deadline
    beyond id s e = by (nat_le s.deadline (t.time + 1)) refl e
      where
        by : (b : Bool) → nat_le s.deadline (t.time + 1) ≡ b → cond b (Some id) None ≡ None → t.time + 1 < s.deadline
        by true is gives = cc
        by false is gives = grind (arith, nat_tests)
