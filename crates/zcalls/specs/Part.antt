-- The change step and the part step: one operation on the tree. The source is the ZooKeeper
-- Programmer's Guide, "ZNodes", "Ephemeral Nodes", "Sequence Nodes -- Unique Naming" and "Time in
-- ZooKeeper". The order of refusals and the limits are this project's profile.
use Rattle.std.specs.Prelude.{ℕ, ◌+◌, Bool, true, false, not, ◌&&◌, List, [], ◌∷◌, length, Option, None, Some, Result, Ok, Err, if◌then◌else◌, nat_lt, nat_le, ◌==◌}
use Rattle.std.specs.Option.{option_map_or}
use Rattle.std.specs.FinMap as finite
use Rattle.zpath.specs.First.{first_that_holds}
use Rattle.zpath.specs.Numbered.{numbered_path, is_over}
use Rattle.ztree.specs.Tree.{Tree, Nodes, Sessions, Path, parent_of, has_node, children, stat_of, with_node, without_node, with_data, with_acl}
use Rattle.ztree.specs.declared.term.Term.{Term}
use Rattle.ztree.specs.declared.term.Term.TheVariants.{Unlimited, Timed, Container as AsContainer}
use Rattle.ztree.specs.declared.node.Node.{Node}
use Rattle.ztree.specs.declared.session.Session.{Session}
use Rattle.zcalls.specs.declared.limits.TheConstants.{MAX_COUNTER}
use Rattle.zcalls.specs.declared.call.Kind.{Kind}
use Rattle.zcalls.specs.declared.call.Lifetime.{Lifetime}
use Rattle.zcalls.specs.declared.call.Lifetime.TheVariants.{Persistent, WithTtl, Ephemeral, Container}
use Rattle.zcalls.specs.declared.call.Expected.{Expected}
use Rattle.zcalls.specs.declared.call.Expected.TheVariants.{Any, Exactly}
use Rattle.zcalls.specs.declared.call.Create.{Create}
use Rattle.zcalls.specs.declared.call.Delete.{Delete}
use Rattle.zcalls.specs.declared.call.SetData.{SetData}
use Rattle.zcalls.specs.declared.call.SetAcl.{SetAcl}
use Rattle.zcalls.specs.declared.call.Check.{Check}
use Rattle.zcalls.specs.declared.call.Part.{Part}
use Rattle.zcalls.specs.declared.call.Part.TheVariants as part
use Rattle.zcalls.specs.declared.change.Change.{Change}
use Rattle.zcalls.specs.declared.change.Change.TheVariants as change
use Rattle.zcalls.specs.declared.change.ChangeReply.{ChangeReply}
use Rattle.zcalls.specs.declared.change.ChangeReply.TheVariants.{Created, Deleted, Set}
use Rattle.zcalls.specs.declared.refusal.Refusal.{Refusal}
use Rattle.zcalls.specs.declared.refusal.Refusal.TheVariants.{NoNode, NodeExists, NotEmpty, BadVersion, NoChildrenForEphemerals, SessionGone, SequenceFull, PathLimit, RootFixed, Full}
use Rattle.zcalls.specs.declared.reply.PartReply.{PartReply}
use Rattle.zcalls.specs.declared.reply.PartReply.TheVariants.{Checked}
use Rattle.zcalls.specs.Change.{part_reply_of}

-- the path is the root
abbrev pub is_root : Path → Bool
is_root [] = true
is_root (name ∷ path) = false

-- the node at the path exists and passes the test
abbrev pub node_has : (Node → Bool) → Nodes → Path → Bool
node_has test nodes path = option_map_or test (finite.get nodes path) false

-- a session owns the node
abbrev pub is_owned : Node → Bool
is_owned n = not (n.owner == 0)

-- the number differs from the expected one
abbrev pub is_other : Expected → ℕ → Bool
is_other Any number = false
is_other (Exactly version) number = not (number == version)

-- the node's version differs from the expected one
abbrev pub has_other_version : Expected → Node → Bool
has_other_version expected n = is_other expected n.version

-- the version of the node's access control list differs from the expected one
abbrev pub has_other_acl : Expected → Node → Bool
has_other_acl expected n = is_other expected n.aversion

-- the node's counter has given its last number
abbrev pub is_spent : Node → Bool
is_spent n = nat_lt MAX_COUNTER n.seq

-- a kind whose node has just the requested name
abbrev pub named : Lifetime → Kind
named lifetime = record { lifetime = lifetime; is_sequential = false }

-- a kind whose node takes a number from its parent's counter
abbrev pub sequential : Lifetime → Kind
sequential lifetime = record { lifetime = lifetime; is_sequential = true }

-- the session that will own the node, or 0 for none
abbrev pub owner_of : Lifetime → ℕ
owner_of Persistent = 0
owner_of (WithTtl ttl) = 0
owner_of (Ephemeral session) = session
owner_of Container = 0

-- the term of the node: what a tick may remove it for
abbrev pub term_of : Lifetime → Term
term_of Persistent = Unlimited
term_of (WithTtl ttl) = Timed ttl
term_of (Ephemeral session) = Unlimited
term_of Container = AsContainer

-- the session is gone for this client: it doesn't exist, or belongs to another client
abbrev pub is_gone : Sessions → ℕ → ℕ → Bool
is_gone sessions client session = option_map_or (λ (s : Session). not (s.client == client)) (finite.get sessions session) true

-- the node would belong to a session that is gone
abbrev pub has_no_owner : Sessions → ℕ → Lifetime → Bool
has_no_owner sessions client Persistent = false
has_no_owner sessions client (WithTtl ttl) = false
has_no_owner sessions client (Ephemeral session) = is_gone sessions client session
has_no_owner sessions client Container = false

-- the counter of the node at the path, or 0 if there is no node
abbrev pub counter_at : Nodes → Path → ℕ
counter_at nodes path = option_map_or (λ n. n.seq) (finite.get nodes path) 0

-- the path of the node that a create makes
abbrev pub made_path : Nodes → Kind → Path → Path
made_path nodes kind path = if kind.is_sequential then numbered_path path (counter_at nodes (parent_of path)) else path

-- the refusals of a client's create, in the order of the tests
abbrev pub create_refusals : Tree → ℕ → Create → List (Bool × Refusal)
create_refusals t client create =
    (has_no_owner t.sessions client create.kind.lifetime, SessionGone)
    ∷ (is_root create.path, NodeExists)
    ∷ (not (has_node t.nodes (parent_of create.path)), NoNode)
    ∷ (node_has is_owned t.nodes (parent_of create.path), NoChildrenForEphemerals)
    ∷ (create.kind.is_sequential && node_has is_spent t.nodes (parent_of create.path), SequenceFull)
    ∷ (is_over (made_path t.nodes create.kind create.path), PathLimit)
    ∷ (has_node t.nodes (made_path t.nodes create.kind create.path), NodeExists)
    ∷ (nat_le t.limits.nodes (finite.len t.nodes), Full)
    ∷ []

-- the refusals of a delete, in the order of the tests
abbrev pub delete_refusals : Nodes → Delete → List (Bool × Refusal)
delete_refusals nodes delete =
    (is_root delete.path, RootFixed)
    ∷ (not (has_node nodes delete.path), NoNode)
    ∷ (node_has (has_other_version delete.version) nodes delete.path, BadVersion)
    ∷ (nat_lt 0 (length (children nodes delete.path)), NotEmpty)
    ∷ []

-- the refusal if there is one, else the result
abbrev pub unless_refused : {A : Type 0} → Option Refusal → A → Result A Refusal
unless_refused (Some refusal) x = Err refusal
unless_refused None x = Ok x

-- the action on a node if it exists and doesn't have another version by this test, else the refusal
abbrev pub unless_other : {A : Type 0} → (Node → Bool) → Option Node → (Node → A) → Result A Refusal
unless_other is_other None act = Err NoNode
unless_other is_other (Some n) act = if is_other n then Err BadVersion else Ok (act n)

-- the action on a node if it exists and has the expected version, else the refusal
abbrev pub on_version : {A : Type 0} → Expected → Option Node → (Node → A) → Result A Refusal
on_version expected found act = unless_other (has_other_version expected) found act

-- the tree with this node at the path, and the node's new stat
abbrev pub with_node_set : Tree → Path → Node → Tree × ChangeReply
with_node_set t path n =
    let nodes = finite.insert t.nodes path n in
    (record t { nodes = nodes }, Set (stat_of nodes path n))

-- a create makes one node, under a parent that exists and that no session owns
unfoldable pub create_step : Tree → ℕ → Create → Result (Tree × ChangeReply) Refusal
create_step t client create =
    let made = made_path t.nodes create.kind create.path in
    unless_refused (first_that_holds (create_refusals t client create))
    (with_node t made create.bytes (owner_of create.kind.lifetime) (term_of create.kind.lifetime) create.kind.is_sequential, Created made)

-- a delete removes one node that has no children
unfoldable pub delete_step : Tree → Delete → Result (Tree × ChangeReply) Refusal
delete_step t delete =
    unless_refused (first_that_holds (delete_refusals t.nodes delete)) (without_node t delete.path, Deleted)

-- a set writes one node's data, and returns its new stat
unfoldable pub set_step : Tree → SetData → Result (Tree × ChangeReply) Refusal
set_step t set =
    on_version set.version (finite.get t.nodes set.path)
    (λ n. with_node_set t set.path (with_data set.bytes (t.zxid + 1) t.time n))

-- a write of one node's access control list is counted, and returns the node's new stat
unfoldable pub acl_step : Tree → SetAcl → Result (Tree × ChangeReply) Refusal
acl_step t set =
    unless_other (has_other_acl set.version) (finite.get t.nodes set.path)
    (λ n. with_node_set t set.path (with_acl n))

-- a check changes nothing
unfoldable pub check_step : Tree → Check → Result (Tree × PartReply) Refusal
check_step t check = on_version check.version (finite.get t.nodes check.path) (λ n. (t, Checked))

-- the change step, for a client: one change of one node
abbrev pub change_step : Tree → ℕ → Change → Result (Tree × ChangeReply) Refusal
change_step t client (change.Create create) = create_step t client create
change_step t client (change.Delete delete) = delete_step t delete
change_step t client (change.SetData set) = set_step t set

-- the result of a change as the result of a part
abbrev pub reported_as_part : Result (Tree × ChangeReply) Refusal → Result (Tree × PartReply) Refusal
reported_as_part (Err refusal) = Err refusal
reported_as_part (Ok (t, did)) = Ok (t, part_reply_of did)

-- the part step, for a client: one part of a multi
abbrev pub part_step : Tree → ℕ → Part → Result (Tree × PartReply) Refusal
part_step t client (part.Create create) = reported_as_part (create_step t client create)
part_step t client (part.Delete delete) = reported_as_part (delete_step t delete)
part_step t client (part.SetData set) = reported_as_part (set_step t set)
part_step t client (part.Check check) = check_step t check
