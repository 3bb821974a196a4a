-- What the ends of sessions leave: how often a node can have been raised by them, and the sessions that are still there.
use Rattle.std.proofs.Common.{◌≡◌, ◌≢◌, ℕ, suc, ◌+◌, ◌-◌, ◌≤◌, Bool, true, false, cond, List, [], ◌∷◌, length, Option, Some, None, IsSome, refl, sym, ap, subst, ◌∙◌, arith}
use lib.Dec.{T}
use Rattle.std.specs.Prelude.{is_some, nat_le, ◌==◌}
use Rattle.std.specs.declared.cmp.Ordering.TheVariants.{Less, Equal}
use Rattle.std.specs.Ordering.{nat_cmp, is_lt}
use Rattle.std.specs.Cmp.{nat_cmp_total, tied_itself}
use Rattle.std.specs.Option.{option_map_or}
use Rattle.std.specs.List.{AllByRecursion, filter_map, cons_option}
use Rattle.std.specs.FinMap as finite
use Rattle.std.specs.FinMap.{nat_cmp-IsAntisymmetric, get-empty, len-insert, len-remove, empty_of_len, entries_sorted, is_sorted}
use Rattle.std.specs.FinMap.Entries.{below_all}
use Rattle.zpath.specs.Grammar.{path_cmp}
use Rattle.ztree.specs.declared.node.Node.{Node}
use Rattle.ztree.specs.declared.session.Session.{Session}
use Rattle.ztree.specs.Tree.{Tree, Nodes, Sessions, Path, parent_of, with_change_at, without_child, ephemerals, without_node}
use Rattle.ztree.specs.Sessions.{without_nodes, without_session, without_sessions, due_sessions}
use Rattle.ztree.specs.Lawful.{AllNodes}
use Rattle.ztree.proofs.Sorted.{paths_total, both_parts, is_less}
use Rattle.ztree.proofs.Maps.{has_some, get-remove-elsewhere, get-removed}
use Rattle.ztree.proofs.StaleGone.{CanAllGo, others-can_go}
use Rattle.ztree.proofs.Ephemerals.{first_is_there, ephemerals-dropped}
use Rattle.ztree.proofs.Ending.{all_entries}
use Rattle.zcalls.specs.declared.limits.TheConstants.{MAX_RAISES}
use Rattle.zcalls.specs.Bounds.{IsWithin}
use Rattle.zcalls.proofs.Bounds.{all_remove, all_changed}

-- a node can lose that many children, each by a raise of its cversion, and none of its numbers was
-- raised more often than that
pub record CanLose (raises nodes : ℕ) (n : Node) : Type 0 where
  pub version : n.version ≤ raises
  pub cversion : n.cversion + nodes ≤ raises
  pub aversion : n.aversion ≤ raises
  pub seq : n.seq ≤ 2147483648

-- each node can lose all nodes that there are
abbrev pub RoomForEnds : ℕ → Nodes → Type 0
RoomForEnds raises nodes = AllNodes (CanLose raises (finite.len nodes)) nodes

-- `MAX_RAISES` are enough for all nodes that can go
pub room_before : (raises : ℕ) (nodes : Nodes) → AllNodes (IsWithin raises) nodes → finite.len nodes ≤ MAX_RAISES → RoomForEnds (raises + MAX_RAISES) nodes
room_before raises nodes all few path n e =
    let here = all path n e in
    record { version = omega (arith, here.version); cversion = omega (arith, here.cversion, few); aversion = omega (arith, here.aversion); seq = here.seq }

pub within_after : (raises : ℕ) (nodes : Nodes) → RoomForEnds raises nodes → AllNodes (IsWithin raises) nodes
within_after raises nodes room path n e = let here = room path n e in record { version = here.version; cversion = omega (arith, here.cversion); aversion = here.aversion; seq = here.seq }

-- a change of a node leaves the number of nodes
len-changed_at : (nodes : Nodes) (path : Path) (f : Node → Node) → finite.len (with_change_at nodes path f) ≡ finite.len nodes
-- a change of a node leaves the number of nodes
len-changed_at nodes path f = by (finite.get nodes path) refl
  where
    by : (o : Option Node) → finite.get nodes path ≡ o → finite.len (option_map_or (λ n. finite.insert nodes path (f n)) o nodes) ≡ finite.len nodes
    by None e = refl
    by (Some n) e = len-insert paths_total nodes path (f n) ∙ ap (λ o. cond (is_some o) (finite.len nodes) (finite.len nodes + 1)) e

-- where a node is there, the map isn't empty
not_empty : (nodes : Nodes) (path : Path) (n : Node) → finite.get nodes path ≡ Some n → finite.len nodes ≡ 0 → ⊥
not_empty nodes path n e none = let clash : None ≡ Some n = sym (get-empty path_cmp path) ∙ ap (λ m. finite.get m path) (sym (empty_of_len nodes none)) ∙ e in cc

-- a node that is there goes, and there is one fewer
one_fewer : (nodes : Nodes) (path : Path) (n : Node) → finite.get nodes path ≡ Some n → finite.len (finite.remove nodes path) + 1 ≤ finite.len nodes
one_fewer nodes path n e =
    let some = not_empty nodes path n e in
    let less : finite.len (finite.remove nodes path) ≡ finite.len nodes - 1 = len-remove paths_total nodes path ∙ ap (λ o. cond (is_some o) (finite.len nodes - 1) (finite.len nodes)) e in
    omega (arith, some, less)

-- a node that goes leaves room for the others
pub dropped-room : (raises : ℕ) (t : Tree) (path : Path) (n : Node) → finite.get t.nodes path ≡ Some n → RoomForEnds raises t.nodes → RoomForEnds raises (without_node t path).nodes
-- a node that goes leaves room for the others
dropped-room raises t path n e room =
    subst (λ len. AllNodes (CanLose raises len) (without_node t path).nodes) (sym (len-changed_at (finite.remove t.nodes path) (parent_of path) (without_child (t.zxid + 1))))
    (all_changed (CanLose raises (finite.len t.nodes)) (CanLose raises (finite.len (finite.remove t.nodes path))) (finite.remove t.nodes path) (parent_of path) (without_child (t.zxid + 1))
    fewer (λ m h. record { version = h.version; cversion = omega (arith, less, h.cversion); aversion = h.aversion; seq = h.seq })
    (λ m there. let h = fewer (parent_of path) m there in record { version = h.version; cversion = omega (arith, less, h.cversion); aversion = h.aversion; seq = h.seq }))
  where
    less : finite.len (finite.remove t.nodes path) + 1 ≤ finite.len t.nodes
    less = one_fewer t.nodes path n e

    fewer : AllNodes (CanLose raises (finite.len t.nodes)) (finite.remove t.nodes path)
    fewer = all_remove (CanLose raises (finite.len t.nodes)) t.nodes path room

all_dropped-room : (raises id : ℕ) (paths : List Path) (t : Tree) → ephemerals t.nodes id ≡ paths → RoomForEnds raises t.nodes → RoomForEnds raises (without_nodes t paths).nodes
all_dropped-room raises id [] t all room = room
all_dropped-room raises id (path ∷ paths) t all room =
    let first = first_is_there id t.nodes path paths all in
    all_dropped-room raises id paths (without_node t path) (ephemerals-dropped id t path paths all) (dropped-room raises t path first.0 first.1 room)

-- nodes that can all go leave room for the others
pub leaves-room : (raises : ℕ) (paths : List Path) (t : Tree) → CanAllGo t.nodes paths → RoomForEnds raises t.nodes → RoomForEnds raises (without_nodes t paths).nodes
leaves-room raises [] t can room = room
leaves-room raises (path ∷ paths) t can room =
    let n = has_some (finite.get t.nodes path) can.there.0 in
    leaves-room raises paths (without_node t path) (others-can_go t path paths can) (dropped-room raises t path n.0 n.1 room)

-- no more nodes can go than there are
pub few-leaves : (paths : List Path) (t : Tree) → CanAllGo t.nodes paths → length paths ≤ finite.len t.nodes
few-leaves [] t can = omega arith
few-leaves (path ∷ paths) t can =
    let n = has_some (finite.get t.nodes path) can.there.0 in
    let rest = few-leaves paths (without_node t path) (others-can_go t path paths can) in
    let one = one_fewer t.nodes path n.0 n.1 in
    let same = len-changed_at (finite.remove t.nodes path) (parent_of path) (without_child (t.zxid + 1)) in
    omega (arith, rest, one, same)

pub ended-room : (raises : ℕ) (t : Tree) (id : ℕ) → RoomForEnds raises t.nodes → RoomForEnds raises (without_session t id).nodes
ended-room raises t id room = all_dropped-room raises id (ephemerals t.nodes id) t refl room

pub all_ended-room : (raises : ℕ) (ids : List ℕ) (t : Tree) → RoomForEnds raises t.nodes → RoomForEnds raises (without_sessions t ids).nodes
all_ended-room raises [] t room = room
all_ended-room raises (id ∷ ids) t room = all_ended-room raises ids (without_session t id) (ended-room raises t id room)

-- a session owns no more nodes than there are
pub few_ephemerals : (nodes : Nodes) (id : ℕ) → length (ephemerals nodes id) ≤ finite.len nodes
few_ephemerals nodes id = subst (λ len. length (ephemerals nodes id) ≤ len) (sym (finite.len-entries nodes)) (fewer (finite.entries nodes))
  where
    with_one : (b : Bool) (path : Path) (paths : List Path) (n : ℕ) → length paths ≤ n → length (cons_option (cond b (Some path) None) paths) ≤ suc n
    with_one true path paths n h = omega (arith, h)
    with_one false path paths n h = omega (arith, h)

    fewer : (es : List (Path × Node)) → length (filter_map (λ e. cond (e.1.owner == id) (Some e.0) None) es) ≤ length es
    fewer [] = omega arith
    fewer (e ∷ es) = with_one (e.1.owner == id) e.0 (filter_map (λ e. cond (e.1.owner == id) (Some e.0) None) es) (length es) (fewer es)

-- the zxid of the last change, the clock and the limits are those of before, and the sessions are
-- some of them
pub record Ends (t u : Tree) : Type 0 where
  pub zxid : u.zxid ≡ t.zxid
  pub time : u.time ≡ t.time
  pub limits : u.limits ≡ t.limits
  pub sessions : (id : ℕ) (s : Session) → finite.get u.sessions id ≡ Some s → finite.get t.sessions id ≡ Some s

pub all_dropped-ends : (paths : List Path) (t : Tree) → Ends t (without_nodes t paths)
all_dropped-ends [] t = record { zxid = refl; time = refl; limits = refl; sessions = λ id s e. e }
all_dropped-ends (path ∷ paths) t = let more = all_dropped-ends paths (without_node t path) in record { zxid = more.zxid; time = more.time; limits = more.limits; sessions = more.sessions }

pub ended-ends : (t : Tree) (id : ℕ) → Ends t (without_session t id)
ended-ends t id =
    let more = all_dropped-ends (ephemerals t.nodes id) t in
    record { zxid = more.zxid; time = more.time; limits = more.limits; sessions = λ q s e. (get-removed nat_cmp_total nat_cmp-IsAntisymmetric t.sessions id q s e).1 }

pub all_ended-ends : (ids : List ℕ) (t : Tree) → Ends t (without_sessions t ids)
all_ended-ends [] t = record { zxid = refl; time = refl; limits = refl; sessions = λ id s e. e }
all_ended-ends (id ∷ ids) t =
    let first = ended-ends t id in
    let more = all_ended-ends ids (without_session t id) in
    record { zxid = more.zxid ∙ first.zxid; time = more.time ∙ first.time; limits = more.limits ∙ first.limits; sessions = λ q s e. first.sessions q s (more.sessions q s e) }

-- each of these sessions is there when those before it have ended
abbrev pub AreLive : Sessions → List ℕ → Type 0
AreLive sessions [] = Unit {0}
AreLive sessions (id ∷ ids) = IsSome (finite.get sessions id) × AreLive (finite.remove sessions id) ids

-- each id differs from those after it
abbrev Differ : List ℕ → Type 0
Differ [] = Unit {0}
Differ (id ∷ ids) = AllByRecursion (λ q. q ≢ id) ids × Differ ids

still_there : (sessions : Sessions) (id : ℕ) (ids : List ℕ) → AllByRecursion (λ q. q ≢ id) ids → AllByRecursion (λ q. IsSome (finite.get sessions q)) ids → AllByRecursion (λ q. IsSome (finite.get (finite.remove sessions id) q)) ids
still_there sessions id [] others there = tt
still_there sessions id (q ∷ ids) others there =
    (ap is_some (get-remove-elsewhere nat_cmp_total nat_cmp-IsAntisymmetric sessions id q others.0) ∙ there.0, still_there sessions id ids others.1 there.1)

live : (ids : List ℕ) (sessions : Sessions) → Differ ids → AllByRecursion (λ q. IsSome (finite.get sessions q)) ids → AreLive sessions ids
live [] sessions differ there = tt
live (id ∷ ids) sessions differ there = (there.0, live ids (finite.remove sessions id) differ.1 (still_there sessions id ids differ.0 there.1))

-- the ids that are due, of some entries
abbrev due_of : ℕ → List (ℕ × Session) → List ℕ
due_of tick es = filter_map (λ e. cond (nat_le e.1.deadline tick) (Some e.0) None) es

not_itself : (k q : ℕ) → nat_cmp k q ≡ Less → q ≢ k
not_itself k q less same = let clash : Less ≡ Equal = sym less ∙ ap (nat_cmp k) same ∙ tied_itself nat_cmp_total k in cc

others : (tick k : ℕ) (es : List (ℕ × Session)) → T (below_all nat_cmp k es) → AllByRecursion (λ q. q ≢ k) (due_of tick es)
others tick k [] below = tt
others tick k (e ∷ es) below =
    let parts = both_parts (is_lt (nat_cmp k e.0)) (below_all nat_cmp k es) below in
    by (nat_le e.1.deadline tick) (not_itself k e.0 (is_less (nat_cmp k e.0) parts.0)) (others tick k es parts.1)
  where
    by : (b : Bool) → e.0 ≢ k → AllByRecursion (λ q. q ≢ k) (due_of tick es) → AllByRecursion (λ q. q ≢ k) (cons_option (cond b (Some e.0) None) (due_of tick es))
    by true first rest = (first, rest)
    by false first rest = rest

differ : (tick : ℕ) (es : List (ℕ × Session)) → T (is_sorted nat_cmp es) → Differ (due_of tick es)
differ tick [] sorted = tt
differ tick (e ∷ es) sorted =
    let parts = both_parts (below_all nat_cmp e.0 es) (is_sorted nat_cmp es) sorted in
    by (nat_le e.1.deadline tick) (others tick e.0 es parts.0) (differ tick es parts.1)
  where
    by : (b : Bool) → AllByRecursion (λ q. q ≢ e.0) (due_of tick es) → Differ (due_of tick es) → Differ (cons_option (cond b (Some e.0) None) (due_of tick es))
    by true first rest = (first, rest)
    by false first rest = rest

pub due_live : (sessions : Sessions) (tick : ℕ) → AreLive sessions (due_sessions sessions tick)
due_live sessions tick =
    live (due_sessions sessions tick) sessions (differ tick (finite.entries sessions) (entries_sorted sessions))
    (all_entries nat_cmp_total nat_cmp-IsAntisymmetric (λ (s : Session). nat_le s.deadline tick) (λ q. IsSome (finite.get sessions q)) sessions (λ q s e. ap is_some e))
