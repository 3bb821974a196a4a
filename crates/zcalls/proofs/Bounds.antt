-- What the plain step leaves of the bounds on a tree's numbers.
use Rattle.std.proofs.Common.{◌≡◌, ℕ, ◌+◌, ◌*◌, ◌^◌, ◌<◌, ◌≤◌, Bool, true, false, cond, Option, Some, None, List, [], lit<, refl, sym, ap, subst, ◌∙◌, arith}
use Rattle.std.specs.Prelude.{◌&&◌}
use Rattle.std.specs.FinMap as finite
use Rattle.std.specs.FinMap.{get-insert, get-empty, get-remove}
use Rattle.std.specs.Ordering.{eq_by_cmp, nat_cmp}
use Rattle.std.specs.Option.{option_map_or}
use Rattle.std.proofs.lemmas.Bool.Decides.{nat_tests}
use Rattle.zpath.specs.Grammar.{path_cmp}
use Rattle.zpath.proofs.First.{no_test_holds}
use Rattle.ztree.specs.declared.term.Term.{Term}
use Rattle.ztree.specs.declared.term.Term.TheVariants.{Unlimited}
use Rattle.ztree.specs.declared.limits.TreeLimits.{TreeLimits}
use Rattle.ztree.specs.declared.node.Node.{Node}
use Rattle.ztree.specs.declared.session.Session.{Session}
use Rattle.ztree.specs.Tree.{opening_within, Tree, Nodes, Path, new_node, parent_of, with_change_at, with_child, without_child, with_data, with_acl, with_node, without_node, with_data_at, with_acl_at, with_next_zxid}
use Rattle.ztree.specs.Room.{HasRoom}
use Rattle.ztree.proofs.Sorted.{paths_total}
use Rattle.zcalls.specs.declared.limits.TheConstants.{MAX_RAISES}
use Rattle.zcalls.specs.declared.call.Part.{Part}
use Rattle.zcalls.specs.declared.call.SetAcl.{SetAcl as ToSetAcl}
use Rattle.zcalls.specs.declared.change.Change.{Change}
use Rattle.zcalls.specs.declared.change.Change.TheVariants.{Create, Delete, SetData}
use Rattle.zcalls.specs.Part.{change_step, acl_step, part_step, create_refusals, made_path, owner_of, term_of, is_spent, node_has}
use Rattle.ztree.specs.Lawful.{AllNodes, AllSessions}
use Rattle.zcalls.specs.Bounds.{IsWithin, IsBounded, IsGranted}
use Rattle.zcalls.specs.support.Alone.{ChangesNodesAlone}
use Rattle.zcalls.proofs.Leaving.{Leaves, create_step-leaves, delete_step-leaves, set_step-leaves, acl_step-leaves, part_step-leaves}
use Rattle.zcalls.proofs.Paths.{parent_of-made}

module _ (P : Node → Type 0) where
  chosen : (t : Bool) (new n : Node) (o : Option Node) → P new → (o ≡ Some n → P n) → cond t (Some new) o ≡ Some n → P n
  chosen true new n o h old e = subst P (cc e) h
  chosen false new n o h old e = old e

  kept : (t : Bool) (n : Node) (o : Option Node) → (o ≡ Some n → P n) → cond t None o ≡ Some n → P n
  kept true n o old e = cc
  kept false n o old e = old e

  pub all_insert : (nodes : Nodes) (path : Path) (new : Node) → AllNodes P nodes → P new → AllNodes P (finite.insert nodes path new)
  all_insert nodes path new all h q n e =
      chosen (eq_by_cmp path_cmp q path) new n (finite.get nodes q) h (all q n) (sym (get-insert paths_total nodes path new q) ∙ e)

  pub all_remove : (nodes : Nodes) (path : Path) → AllNodes P nodes → AllNodes P (finite.remove nodes path)
  all_remove nodes path all q n e =
      kept (eq_by_cmp path_cmp q path) n (finite.get nodes q) (all q n) (sym (get-remove paths_total nodes path q) ∙ e)

-- a change of one node, where Q held of all: P holds of it, and P follows from Q at the others
pub all_changed : (Q P : Node → Type 0) (nodes : Nodes) (path : Path) (f : Node → Node) → AllNodes Q nodes → ((n : Node) → Q n → P n) → ((n : Node) → finite.get nodes path ≡ Some n → P (f n)) → AllNodes P (with_change_at nodes path f)
all_changed Q P nodes path f all others changed = by (finite.get nodes path) refl
  where
    same : AllNodes P nodes
    same q n e = others n (all q n e)

    by : (o : Option Node) → finite.get nodes path ≡ o → AllNodes P (option_map_or (λ n. finite.insert nodes path (f n)) o nodes)
    by None e = same
    by (Some n) e = all_insert P nodes path (f n) same (changed n e)

pub within_more : (k m : ℕ) (n : Node) → k ≤ m → IsWithin k n → IsWithin m n
within_more k m n more h = record { version = omega (arith, more, h.version); cversion = omega (arith, more, h.cversion); aversion = omega (arith, more, h.aversion); seq = h.seq }

later : (k : ℕ) (n : Node) → IsWithin k n → IsWithin (k + 1) n
later k n h = record { version = omega (arith, h.version); cversion = omega (arith, h.cversion); aversion = omega (arith, h.aversion); seq = h.seq }

pub has_room : (k : ℕ) (n : Node) → k + 1 < 2 ^ 62 → IsWithin k n → HasRoom n
has_room k n few h = (omega (arith, few, h.version), omega (arith, few, h.cversion), omega (arith, h.seq), omega (arith, few, h.aversion))

with_child_within : (k z : ℕ) (sequential : Bool) (n : Node) → IsWithin k n → (sequential ≡ true → n.seq ≤ 2147483647) → IsWithin (k + 1) (with_child z sequential n)
with_child_within k z true n h unspent = record { version = omega (arith, h.version); cversion = omega (arith, h.cversion); aversion = omega (arith, h.aversion); seq = let left = unspent refl in omega (arith, left) }
with_child_within k z false n h unspent = record { version = omega (arith, h.version); cversion = omega (arith, h.cversion); aversion = omega (arith, h.aversion); seq = omega (arith, h.seq) }

new_within : (k : ℕ) (bytes : List ℕ) (owner : ℕ) (term : Term) (z time : ℕ) → IsWithin k (new_node bytes owner term z time)
new_within k bytes owner term z time = record { version = omega arith; cversion = omega arith; aversion = omega arith; seq = omega arith }

without_child_within : (k z : ℕ) (n : Node) → IsWithin k n → IsWithin (k + 1) (without_child z n)
without_child_within k z n h = record { version = omega (arith, h.version); cversion = omega (arith, h.cversion); aversion = omega (arith, h.aversion); seq = h.seq }

with_data_within : (k : ℕ) (bytes : List ℕ) (z time : ℕ) (n : Node) → IsWithin k n → IsWithin (k + 1) (with_data bytes z time n)
with_data_within k bytes z time n h = record { version = omega (arith, h.version); cversion = omega (arith, h.cversion); aversion = omega (arith, h.aversion); seq = h.seq }

with_acl_within : (k : ℕ) (n : Node) → IsWithin k n → IsWithin (k + 1) (with_acl n)
with_acl_within k n h = record { version = omega (arith, h.version); cversion = omega (arith, h.cversion); aversion = omega (arith, h.aversion); seq = h.seq }

-- the node at a path, where it takes a number, has one left
abbrev pub IsUnspent : Nodes → Path → Bool → Type 0
IsUnspent nodes path sequential = (n : Node) → finite.get nodes path ≡ Some n → sequential ≡ true → n.seq ≤ 2147483647

pub unspent : (nodes : Nodes) (path : Path) (sequential : Bool) → (sequential && node_has is_spent nodes path) ≡ false → IsUnspent nodes path sequential
unspent nodes path sequential none n e taken =
    let here : is_spent n ≡ false = sym (ap (λ o. option_map_or is_spent o false) e) ∙ sym (ap (λ b. b && node_has is_spent nodes path) taken) ∙ none in
    grind (arith, nat_tests)

added_within : (k : ℕ) (t : Tree) (path : Path) (bytes : List ℕ) (owner : ℕ) (term : Term) (sequential : Bool) → AllNodes (IsWithin k) t.nodes → IsUnspent t.nodes (parent_of path) sequential → AllNodes (IsWithin (k + 1)) (with_node t path bytes owner term sequential).nodes
added_within k t path bytes owner term sequential all left =
    all_changed (IsWithin k) (IsWithin (k + 1)) (finite.insert t.nodes path new) (parent_of path) (with_child (t.zxid + 1) sequential)
    more (later k)
    (λ n e. with_child_within k (t.zxid + 1) sequential n (more (parent_of path) n e) (λ taken. unspent_too n taken e))
  where
    new : Node
    new = new_node bytes owner term (t.zxid + 1) t.time

    more : AllNodes (IsWithin k) (finite.insert t.nodes path new)
    more = all_insert (IsWithin k) t.nodes path new all (new_within k bytes owner term (t.zxid + 1) t.time)

    unspent_too : (n : Node) → sequential ≡ true → finite.get (finite.insert t.nodes path new) (parent_of path) ≡ Some n → n.seq ≤ 2147483647
    unspent_too n taken e =
        chosen (λ n. n.seq ≤ 2147483647) (eq_by_cmp path_cmp (parent_of path) path) new n (finite.get t.nodes (parent_of path))
        (omega arith) (λ old. left n old taken) (sym (get-insert paths_total t.nodes path new (parent_of path)) ∙ e)

dropped_within : (k : ℕ) (t : Tree) (path : Path) → AllNodes (IsWithin k) t.nodes → AllNodes (IsWithin (k + 1)) (without_node t path).nodes
dropped_within k t path all =
    let fewer = all_remove (IsWithin k) t.nodes path all in
    all_changed (IsWithin k) (IsWithin (k + 1)) (finite.remove t.nodes path) (parent_of path) (without_child (t.zxid + 1))
    fewer (later k) (λ n e. without_child_within k (t.zxid + 1) n (fewer (parent_of path) n e))

written_within : (k : ℕ) (t : Tree) (path : Path) (bytes : List ℕ) → AllNodes (IsWithin k) t.nodes → AllNodes (IsWithin (k + 1)) (with_data_at t path bytes).nodes
written_within k t path bytes all =
    all_changed (IsWithin k) (IsWithin (k + 1)) t.nodes path (with_data bytes (t.zxid + 1) t.time)
    all (later k) (λ n e. with_data_within k bytes (t.zxid + 1) t.time n (all path n e))

acl_within : (k : ℕ) (t : Tree) (path : Path) → AllNodes (IsWithin k) t.nodes → AllNodes (IsWithin (k + 1)) (with_acl_at t path).nodes
acl_within k t path all = all_changed (IsWithin k) (IsWithin (k + 1)) t.nodes path with_acl all (later k) (λ n e. with_acl_within k n (all path n e))

-- in a tree every node was raised at most so often
abbrev pub IsWithinAll : ℕ → Tree → Type 0
IsWithinAll k t = AllNodes (IsWithin k) t.nodes

-- a change that did something left a tree in which every node was raised once more at most
pub change_roomy : (k : ℕ) (t : Tree) (client : ℕ) (change : Change) → IsWithinAll k t → Leaves (IsWithinAll (k + 1)) (change_step t client change)
change_roomy k t client (Create create) all =
    create_step-leaves (IsWithinAll (k + 1)) t client create
    (λ e. let tests = no_test_holds (create_refusals t client create) e in
    let left = unspent t.nodes (parent_of create.path) create.kind.is_sequential tests.1.1.1.1.0 in
    added_within k t (made_path t.nodes create.kind create.path) create.bytes (owner_of create.kind.lifetime) (term_of create.kind.lifetime) create.kind.is_sequential all
    (subst (λ p. IsUnspent t.nodes p create.kind.is_sequential) (sym (parent_of-made t.nodes create.kind create.path)) left))
change_roomy k t client (Delete delete) all = delete_step-leaves (IsWithinAll (k + 1)) t delete (λ e. dropped_within k t delete.path all)
change_roomy k t client (SetData set) all = set_step-leaves (IsWithinAll (k + 1)) t set (written_within k t set.path set.bytes all)

pub acl_roomy : (k : ℕ) (t : Tree) (set : ToSetAcl) → IsWithinAll k t → Leaves (IsWithinAll (k + 1)) (acl_step t set)
acl_roomy k t set all = acl_step-leaves (IsWithinAll (k + 1)) t set (acl_within k t set.path all)

pub part_roomy : (k : ℕ) (t : Tree) (client : ℕ) (part : Part) → IsWithinAll k t → Leaves (IsWithinAll (k + 1)) (part_step t client part)
part_roomy k t client part all =
    part_step-leaves (IsWithinAll (k + 1)) t client part
    (λ create. change_roomy k t client (Create create) all) (λ delete. change_roomy k t client (Delete delete) all) (λ set. change_roomy k t client (SetData set) all)
    (λ path n e. later k n (all path n e))

-- a session that was granted stays so
pub granted_more : (greatest low high id : ℕ) (s : Session) → low ≤ high → IsGranted greatest low id s → IsGranted greatest high id s
granted_more greatest low high id s more h = record { before = omega (arith, more, h.before); least = h.least; most = h.most }

-- a change that raised each node at most `MAX_RAISES` times, and opened no session, leaves room for
-- the next
module _ (t u : Tree) (k : ℕ) (bounded : IsBounded t) (room : t.zxid + 1 < 2 ^ 40) (few : k ≤ MAX_RAISES * t.zxid + MAX_RAISES) (same : u.zxid ≡ t.zxid) (held : u.limits ≡ t.limits) (all : AllNodes (IsWithin k) u.nodes) where
  pub still_bounded : u.time < 2 ^ 40 → ((id : ℕ) (s : Session) → finite.get u.sessions id ≡ Some s → finite.get t.sessions id ≡ Some s) → IsBounded (with_next_zxid u)
  still_bounded early old =
      record {
        zxid = rw same room;
        time = early;
        counters = λ path n e. within_more k (MAX_RAISES * (u.zxid + 1)) n (omega (arith, few, same)) (all path n e);
        sessions = λ id s e. rw held (granted_more t.limits.timeout t.zxid (u.zxid + 1) id s (omega (arith, same)) (bounded.sessions id s (old id s e)));
      }

pub raised_bounded : (t u : Tree) (k : ℕ) → IsBounded t → t.zxid + 1 < 2 ^ 40 → k ≤ MAX_RAISES * t.zxid + MAX_RAISES → ChangesNodesAlone t u → AllNodes (IsWithin k) u.nodes → IsBounded (with_next_zxid u)
raised_bounded t u k bounded room few same all =
    still_bounded t u k bounded room few same.zxid same.limits all (rw same.time bounded.time) (λ id s e. ap (λ sessions. finite.get sessions id) (sym same.sessions) ∙ e)

pub no_nodes : (P : Node → Type 0) → AllNodes P finite.empty
no_nodes P path n e = absurd (none_is_not_some n (sym (get-empty path_cmp path) ∙ e))
  where
    none_is_not_some : (n : Node) → None ≡ Some n → ⊥
    none_is_not_some n e = cc

pub no_sessions : (greatest : ℕ) → AllSessions (IsGranted greatest 0) finite.empty
no_sessions greatest id s e = let clash : None ≡ Some s = sym (get-empty nat_cmp id) ∙ e in cc

pub opening_bounded : (limits : TreeLimits) → IsBounded (opening_within limits)
opening_bounded limits = record { zxid = lit< tt; time = lit< tt; sessions = no_sessions limits.timeout; counters = all_insert (IsWithin 0) finite.empty [] (new_node [] 0 Unlimited 0 0) (no_nodes (IsWithin 0)) (new_within 0 [] 0 Unlimited 0 0) }
