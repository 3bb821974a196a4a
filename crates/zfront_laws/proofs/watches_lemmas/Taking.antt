-- What a close and a tick take away: nodes, and children of others.
use Rattle.std.proofs.Common.{◌≡◌, ◌≢◌, ◌∙◌, ◌+◌, ◌<◌, ℕ, cond, Bool, true, false, List, [], ◌∷◌, length, Option, Some}
use Rattle.std.proofs.Common.{None, refl, sym, ap, subst, inl, inr, arith, if◌then◌else◌}
use Rattle.std.proofs.Math.Bool.{or-true}
use Rattle.std.specs.Prelude.{◌⊎◌, ◌||◌, nat_lt}
use Rattle.std.proofs.lemmas.Bool.Decides.{nat_tests}
use Rattle.std.specs.List.{list_any, AllByRecursion}
use Rattle.std.specs.Option.{option_map, option_map_or}
use Rattle.std.specs.Ordering.{eq_by_cmp, nat_cmp}
use Rattle.std.specs.Cmp.{nat_cmp_total}
use Rattle.std.specs.FinMap as finite
use Rattle.std.specs.FinMap.{nat_cmp-IsAntisymmetric}
use Rattle.ztree.specs.declared.node.Node.{Node}
use Rattle.ztree.specs.Tree.{Tree, Path, Nodes, parent_of, ephemerals, without_node, without_child, with_change_at, with_next_zxid}
use Rattle.ztree.specs.Sessions.{without_nodes, without_session, without_sessions}
use Rattle.ztree.specs.Lawful.{IsLawful}
use Rattle.ztree.proofs.LawfulEnd.{due_above}
use Rattle.ztree.proofs.Sorted.{paths_total, same_path}
use Rattle.ztree.proofs.Maps.{same_or_other, get-insert-here, get-remove-here, get-remove-elsewhere, tied}
use Rattle.ztree.proofs.Nodes.{get-insert-other}
use Rattle.ztree.proofs.Ending.{sessions-all_ended}
use Rattle.ztree.proofs.Ephemerals.{first_is_there}
use Rattle.zcalls.specs.declared.call.Update.TheVariants.{Close, Tick}
use Rattle.zcalls.specs.declared.refusal.Refusal.TheVariants.{SessionGone, Exhausted}
use Rattle.zcalls.specs.declared.reply.Reply.{Reply}
use Rattle.zcalls.specs.declared.reply.Reply.TheVariants as reply
use Rattle.zcalls.specs.Part.{is_gone}
use Rattle.zcalls.specs.Step.{step, update_result, tick_result, after_tick, counted_if, is_busy, is_exhausted, due_next, stale_next}
use Rattle.zcalls.proofs.Owners.{is_own}
use Rattle.zcalls.proofs.Ticks.{gone-ends, idle}
use Rattle.zcalls.proofs.Ends.{all_dropped-ends, ended-ends}
use Rattle.zwatches.specs.changes.Laws.{but_children, data_at, children_at}
use Rattle.zfront.specs.Front.{takes_nodes}

-- what a path may lose by the change of this zxid: its node, or a child
pub record Loses (zxid : ℕ) (before now : Nodes) (path : Path) : Type 0 where
  pub of_data : (data_at now path ≡ data_at before path) ⊎ (data_at now path ≡ None)
  pub of_children : (children_at now path ≡ children_at before path) ⊎ ((children_at now path ≡ None) ⊎ (children_at now path ≡ Some zxid))

pub loses_nothing : (zxid : ℕ) (nodes : Nodes) (path : Path) → Loses zxid nodes nodes path
loses_nothing zxid nodes path = record { of_data = inl refl; of_children = inl refl }

data_both : (a b c : Option Node) → (b ≡ a) ⊎ (b ≡ None) → (c ≡ b) ⊎ (c ≡ None) → (c ≡ a) ⊎ (c ≡ None)
data_both a b c (inl one) (inl two) = inl (two ∙ one)
data_both a b c (inr one) (inl two) = inr (two ∙ one)
data_both a b c one (inr two) = inr two

children_both : (zxid : ℕ) (a b c : Option ℕ) → (b ≡ a) ⊎ ((b ≡ None) ⊎ (b ≡ Some zxid)) → (c ≡ b) ⊎ ((c ≡ None) ⊎ (c ≡ Some zxid))
    → (c ≡ a) ⊎ ((c ≡ None) ⊎ (c ≡ Some zxid))
children_both zxid a b c (inl one) (inl two) = inl (two ∙ one)
children_both zxid a b c (inr (inl one)) (inl two) = inr (inl (two ∙ one))
children_both zxid a b c (inr (inr one)) (inl two) = inr (inr (two ∙ one))
children_both zxid a b c one (inr two) = inr two

both : (zxid : ℕ) (a b c : Nodes) (path : Path) → Loses zxid a b path → Loses zxid b c path → Loses zxid a c path
both zxid a b c path one two = record {
  of_data = data_both (data_at a path) (data_at b path) (data_at c path) one.of_data two.of_data;
  of_children = children_both zxid (children_at a path) (children_at b path) (children_at c path) one.of_children two.of_children;
}

-- a node is removed
removed : (zxid : ℕ) (nodes : Nodes) (at path : Path) → Loses zxid nodes (finite.remove nodes at) path
removed zxid nodes at path = near (same_or_other paths_total same_path path at)
  where
    near : (path ≡ at) ⊎ (path ≢ at) → Loses zxid nodes (finite.remove nodes at) path
    near (inl here) =
        let gone : finite.get (finite.remove nodes at) path ≡ None = ap (finite.get (finite.remove nodes at)) here
        ∙ get-remove-here paths_total same_path nodes at in
        record {
          of_data = inr (ap (option_map but_children) gone);
          of_children = inr (inl (ap (option_map (λ (n : Node). n.pzxid)) gone));
        }
    near (inr apart) =
        let same : finite.get (finite.remove nodes at) path ≡ finite.get nodes path = get-remove-elsewhere paths_total
        same_path nodes at path apart in
        record {
          of_data = inl (ap (option_map but_children) same);
          of_children = inl (ap (option_map (λ (n : Node). n.pzxid)) same);
        }

-- a node above it has a child less
less_a_child : (zxid : ℕ) (nodes : Nodes) (at path : Path) → Loses zxid nodes (with_change_at nodes at (without_child zxid)) path
less_a_child zxid nodes at path = by (finite.get nodes at) refl
  where
    f : Node → Node
    f = without_child zxid

    here : (n : Node) → finite.get nodes at ≡ Some n → path ≡ at → Loses zxid nodes (finite.insert nodes at (f n)) path
    here n is same =
        let there : finite.get (finite.insert nodes at (f n)) path ≡ Some (f n) = ap (finite.get (finite.insert nodes at (f n))) same
        ∙ get-insert-here paths_total same_path nodes at (f n) in
        let was : finite.get nodes path ≡ Some n = ap (finite.get nodes) same ∙ is in
        record {
          of_data = inl (ap (option_map but_children) there ∙ sym (ap (option_map but_children) was));
          of_children = inr (inr (ap (option_map (λ (m : Node). m.pzxid)) there));
        }

    near : (n : Node) → finite.get nodes at ≡ Some n → (path ≡ at) ⊎ (path ≢ at) → Loses zxid nodes (finite.insert nodes at (f n)) path
    near n is (inl same) = here n is same
    near n is (inr apart) = record {
      of_data = inl (ap (option_map but_children) (get-insert-other nodes at (f n) path apart));
      of_children = inl (ap (option_map (λ (m : Node). m.pzxid)) (get-insert-other nodes at (f n) path apart));
    }

    by : (o : Option Node) → finite.get nodes at ≡ o → Loses zxid nodes (option_map_or (λ n. finite.insert nodes at (f n)) o nodes) path
    by None is = loses_nothing zxid nodes path
    by (Some n) is = near n is (same_or_other paths_total same_path path at)

pub dropped : (t : Tree) (at path : Path) → Loses (t.zxid + 1) t.nodes (without_node t at).nodes path
dropped t at path =
    both (t.zxid + 1) t.nodes (finite.remove t.nodes at) (without_node t at).nodes path (removed (t.zxid + 1) t.nodes at path)
    (less_a_child (t.zxid + 1) (finite.remove t.nodes at) (parent_of at) path)

pub all_dropped : (paths : List Path) (t : Tree) (path : Path) → Loses (t.zxid + 1) t.nodes (without_nodes t paths).nodes path
all_dropped [] t path = loses_nothing (t.zxid + 1) t.nodes path
all_dropped (at ∷ paths) t path =
    both (t.zxid + 1) t.nodes (without_node t at).nodes (without_nodes t (at ∷ paths)).nodes path (dropped t at path)
    (all_dropped paths (without_node t at) path)

all_ended : (ids : List ℕ) (t : Tree) (path : Path) → Loses (t.zxid + 1) t.nodes (without_sessions t ids).nodes path
all_ended [] t path = loses_nothing (t.zxid + 1) t.nodes path
all_ended (id ∷ ids) t path =
    let u = without_session t id in
    both (t.zxid + 1) t.nodes u.nodes (without_sessions u ids).nodes path (all_dropped (ephemerals t.nodes id) t path)
    (subst (λ z. Loses (z + 1) u.nodes (without_sessions u ids).nodes path) (ended-ends t id).zxid (all_ended ids u path))

all_gone : (ids : List ℕ) (paths : List Path) (t : Tree) (path : Path)
    → Loses (t.zxid + 1) t.nodes (without_nodes (without_sessions t ids) paths).nodes path
all_gone ids paths t path =
    let u = without_sessions t ids in
    both (t.zxid + 1) t.nodes u.nodes (without_nodes u paths).nodes path (all_ended ids t path)
    (subst (λ z. Loses (z + 1) u.nodes (without_nodes u paths).nodes path) ((gone-ends ids [] t).zxid) (all_dropped paths u path))

-- the session owns a node
abbrev pub Owned : Nodes → ℕ → Type 0
Owned nodes id = (0 < id) × (path : Path) × (n : Node) × (finite.get nodes path ≡ Some n) × (n.owner ≡ id)

-- sessions that end leave all nodes, or one of them owned a node
ended_or_owned : (ids : List ℕ) (t : Tree) → AllByRecursion (λ id. 0 < id) ids
    → ((without_sessions t ids).nodes ≡ t.nodes) ⊎ ((id : ℕ) × (list_any (eq_by_cmp nat_cmp id) ids ≡ true) × Owned t.nodes id)
ended_or_owned [] t above = inl refl
ended_or_owned (first ∷ ids) t above = by (ephemerals t.nodes first) refl (ended_or_owned ids (without_session t first) above.1)
  where
    Outcome : Type 0
    Outcome = ((without_sessions t (first ∷ ids)).nodes ≡ t.nodes)
        ⊎ ((id : ℕ) × (list_any (eq_by_cmp nat_cmp id) (first ∷ ids) ≡ true) × Owned t.nodes id)

    rest : (without_session t first).nodes ≡ t.nodes
        → ((without_sessions (without_session t first) ids).nodes ≡ (without_session t first).nodes)
        ⊎ ((id : ℕ) × (list_any (eq_by_cmp nat_cmp id) ids ≡ true) × Owned (without_session t first).nodes id)
        → Outcome
    rest same (inl still) = inl (still ∙ same)
    rest same (inr (id, among, owned)) =
        inr (id, ap (λ b. eq_by_cmp nat_cmp id first || b) among ∙ or-true (eq_by_cmp nat_cmp id first), subst (λ nodes. Owned nodes id) same owned)

    by : (paths : List Path) → ephemerals t.nodes first ≡ paths
        → ((without_sessions (without_session t first) ids).nodes ≡ (without_session t first).nodes)
        ⊎ ((id : ℕ) × (list_any (eq_by_cmp nat_cmp id) ids ≡ true) × Owned (without_session t first).nodes id)
        → Outcome
    by [] none further = rest (ap (λ paths. (without_nodes t paths).nodes) none) further
    by (path ∷ paths) some further =
        let found = first_is_there first t.nodes path paths some in
        inr (
          first,
          ap (λ b. b || list_any (eq_by_cmp nat_cmp first) ids) (tied nat_cmp_total nat_cmp-IsAntisymmetric first),
          (above.0, path, found.0, found.1, found.2),
        )

-- all nodes stay, or the change takes some away: then the reply reports it, or a session that is gone owned one
abbrev pub TakesTo : Tree → Tree → Bool → Type 0
TakesTo t u took =
    (u.nodes ≡ t.nodes)
    ⊎ ((u.zxid ≡ t.zxid + 1) × ((path : Path) → Loses (t.zxid + 1) t.nodes u.nodes path)
    × ((took ≡ true) ⊎ ((id : ℕ) × (finite.get u.sessions id ≡ None) × Owned t.nodes id)))

abbrev pub Takes : Tree → Tree × Reply → Type 0
Takes t did = TakesTo t did.0 (takes_nodes did.1)

either : (t : Tree) (why : Reply) (did : Tree × Reply) (b : Bool) → Takes t did → Takes t (if b then (t, why) else did)
either t why did true takes = inl refl
either t why did false takes = takes

closed_takes : (t : Tree) (session : ℕ) → 0 < session → Takes t (with_next_zxid (without_session t session), reply.Closed)
closed_takes t session above = by (ephemerals t.nodes session) refl
  where
    by : (paths : List Path) → ephemerals t.nodes session ≡ paths → Takes t (with_next_zxid (without_session t session), reply.Closed)
    by [] none = inl (ap (λ paths. (without_nodes t paths).nodes) none)
    by (path ∷ paths) some =
        let found = first_is_there session t.nodes path paths some in
        inr (
          ap (λ z. z + 1) (all_dropped-ends (ephemerals t.nodes session) t).zxid,
          all_dropped (ephemerals t.nodes session) t,
          inr (session, get-remove-here nat_cmp_total nat_cmp-IsAntisymmetric t.sessions session, (above, path, found.0, found.1, found.2)),
        )

closes_if : (t : Tree) (session : ℕ) → IsLawful t → (gone : Bool) → is_gone t.sessions 0 session ≡ gone
    → Takes t (if gone then (t, reply.Refused SessionGone) else (with_next_zxid (without_session t session), reply.Closed))
closes_if t session lawful true is = inl refl
closes_if t session lawful false is =
    let own = is_own t.sessions 0 session is in
    closed_takes t session (lawful.ids session own.session own.there)

pub close_takes : (t : Tree) (session : ℕ) → IsLawful t → Takes t (step t 0 (Close session))
unfolding step
close_takes t session lawful =
    either t (reply.Refused Exhausted) (update_result t 0 (Close session)) (is_exhausted t (Close session))
    (closes_if t session lawful (is_gone t.sessions 0 session) refl)

some_removed : (path : Path) (paths : List Path) → nat_lt 0 (length (path ∷ paths)) ≡ true
some_removed path paths = grind (arith, nat_tests)

ticked_takes : (t : Tree) (ids : List ℕ) (paths : List Path) → AllByRecursion (λ id. 0 < id) ids → Takes t (tick_result t ids paths)
ticked_takes t ids paths above = by (is_busy ids paths) refl
  where
    reported : Reply
    reported = reply.Ticked (t.time + 1) (length ids) (length paths)

    owned : (is_busy ids paths ≡ true) → (paths ≡ []) → ((without_sessions t ids).nodes ≡ t.nodes)
        ⊎ ((id : ℕ) × (list_any (eq_by_cmp nat_cmp id) ids ≡ true) × Owned t.nodes id)
        → Takes t (with_next_zxid (after_tick t ids paths), reported)
    owned busy none (inl same) = inl (ap (λ ps. (without_nodes (without_sessions t ids) ps).nodes) none ∙ same)
    owned busy none (inr (id, among, has)) =
        inr (
          ap (λ z. z + 1) (gone-ends ids paths t).zxid,
          all_gone ids paths t,
          inr (
            id,
            ap (λ (ps : List Path). finite.get (without_nodes (without_sessions t ids) ps).sessions id) none
                ∙ sessions-all_ended t ids id ∙ ap (λ b. cond b None (finite.get t.sessions id)) among,
            has,
          ),
        )

    busy : (ps : List Path) → paths ≡ ps → is_busy ids paths ≡ true → Takes t (with_next_zxid (after_tick t ids paths), reported)
    busy [] none does = owned does none (ended_or_owned ids t above)
    busy (p ∷ ps) some does =
        inr (
          ap (λ z. z + 1) (gone-ends ids paths t).zxid,
          all_gone ids paths t,
          inl (ap (λ (all : List Path). nat_lt 0 (length all)) some ∙ some_removed p ps),
        )

    by : (b : Bool) → is_busy ids paths ≡ b → Takes t (counted_if b (after_tick t ids paths), reported)
    by true is = busy paths refl is
    by false is =
        let none = idle ids paths is in
        inl (ap (λ ps. (without_nodes (without_sessions t ids) ps).nodes) none.1 ∙ ap (λ all. (without_sessions t all).nodes) none.0)

pub tick_takes : (t : Tree) → IsLawful t → Takes t (step t 0 Tick)
unfolding step
tick_takes t lawful =
    either t (reply.Refused Exhausted) (update_result t 0 Tick) (is_exhausted t Tick)
    (ticked_takes t (due_next t) (stale_next t) (due_above t (t.time + 1) lawful))
