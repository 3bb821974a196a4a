-- What the worked rows speak of: the refusals of a table, parts of a multi, and a tree that has one node at least.
use Rattle.std.specs.Prelude.{ℕ, ◌+◌, ◌≡◌, Bool, true, Some, Result, Ok, Err, List, [], ◌∷◌, map}
use Rattle.std.specs.FinMap.{get}
use Rattle.ztree.specs.declared.node.Stat.{Stat}
use Rattle.ztree.specs.support.Samples.{a, at_a, some_node}
use Rattle.ztree.specs.Tree.{Tree, Path, children, stat_with, without_node, with_next_zxid, with_acl}
use Rattle.ztree.specs.Sessions.{without_session, with_next_tick}
use Rattle.zcalls.specs.declared.call.Create.{Create}
use Rattle.zcalls.specs.declared.call.Delete.{Delete}
use Rattle.zcalls.specs.declared.call.Expected.TheVariants.{Exactly}
use Rattle.zcalls.specs.declared.call.Part.{Part}
use Rattle.zcalls.specs.declared.call.Query.TheVariants.{GetData}
use Rattle.zcalls.specs.declared.call.Update.{Update}
use Rattle.zcalls.specs.declared.change.ChangeReply.{ChangeReply}
use Rattle.zcalls.specs.declared.change.ChangeReply.TheVariants as change
use Rattle.zcalls.specs.declared.refusal.Refusal.{Refusal}
use Rattle.zcalls.specs.declared.refusal.Refusal.TheVariants.{NoNode, NodeExists, SessionGone}
use Rattle.zcalls.specs.declared.refusal.Refusal.TheVariants.{NoChildrenForEphemerals, Full, SequenceFull, PathLimit}
use Rattle.zcalls.specs.declared.reply.PartReply.TheVariants.{Checked}
use Rattle.zcalls.specs.declared.reply.Reply.{Reply}
use Rattle.zcalls.specs.declared.reply.Reply.TheVariants as reply
use Rattle.zcalls.specs.Part.{create_refusals, delete_refusals, part_step, delete_step, set_step, acl_step}
use Rattle.zcalls.specs.Multi.{Run, run}
use Rattle.zcalls.specs.Step.{step, query_reply}

-- the refusals of a table, in its order
abbrev pub refusals : List (Bool × Refusal) → List Refusal
refusals rows = map (λ row. row.1) rows

-- whatever the tests say, those of a create, and of a delete, are tested in this order
abbrev pub CreatesAreTested : List Refusal → Type 0
CreatesAreTested order = (t : Tree) (client : ℕ) (create : Create) → refusals (create_refusals t client create) ≡ order

abbrev pub DeletesAreTested : List Refusal → Type 0
DeletesAreTested order = (t : Tree) (delete : Delete) → refusals (delete_refusals t.nodes delete) ≡ order

-- the order for a create
abbrev pub order_of_creates : List Refusal
order_of_creates = SessionGone ∷ NodeExists ∷ NoNode ∷ NoChildrenForEphemerals ∷ SequenceFull ∷ PathLimit ∷ NodeExists ∷ Full ∷ []

-- wherever the test says so, an update is refused so, and changes nothing
abbrev pub IsRefusedWhere : (Tree → Update → Bool) → Refusal → Type 0
IsRefusedWhere test why = (t : Tree) (client : ℕ) (u : Update) → test t u ≡ true → step t client u ≡ (t, reply.Refused why)

-- where the first part of a multi is refused so, the whole comes to this
abbrev pub FirstIsRefused : Refusal → Run → Type 0
FirstIsRefused why whole =
    (t : Tree) (client : ℕ) (part : Part) (parts : List Part) → part_step t client part ≡ Err why → run t client (part ∷ parts) ≡ whole

-- where it is done and answered Checked, and those after it come to this on the tree that it left,
-- the whole comes to that
abbrev pub FirstIsChecked : Run → Run → Type 0
FirstIsChecked rest whole =
    (t u : Tree) (client : ℕ) (part : Part) (parts : List Part)
    → part_step t client part ≡ Ok (u, Checked)
    → run u client parts ≡ rest
    → run t client (part ∷ parts) ≡ whole

-- the tree has the node that is spoken of, and that has no children
abbrev pub HasNode : Tree → Type 0
HasNode t = get t.nodes at_a ≡ Some some_node

abbrev pub IsChildless : Tree → Type 0
IsChildless t = children t.nodes at_a ≡ []

-- what is done when its data is asked for, and when it is deleted or set where it has this version
abbrev pub get_a : Tree → Reply
get_a t = query_reply t (GetData at_a)

abbrev pub delete_a : Tree → ℕ → Result (Tree × ChangeReply) Refusal
delete_a t version = delete_step t (record { path = at_a; version = Exactly version })

abbrev pub set_a : Tree → ℕ → Result (Tree × ChangeReply) Refusal
set_a t version = set_step t (record { path = at_a; bytes = a; version = Exactly version })

abbrev pub set_acl_a : Tree → ℕ → Result (Tree × ChangeReply) Refusal
set_acl_a t version = acl_step t (record { path = at_a; version = Exactly version })

-- its bytes, and its stat where it has no children
abbrev pub sevens : List ℕ
sevens = 7 ∷ 7 ∷ []

abbrev pub childless_stat : Stat
childless_stat = stat_with some_node 0

-- the same after a write of its access control list
abbrev pub acl_stat : Stat
acl_stat = stat_with (with_acl some_node) 0

-- the tree without it, and that as the outcome of a delete
abbrev pub without_a : Tree → Tree
without_a t = without_node t at_a

abbrev pub deleted_a : Tree → Tree × ChangeReply
deleted_a t = (without_a t, change.Deleted)

-- the tree without session 7
abbrev pub without_7 : Tree → Tree
without_7 t = without_session t 7

-- that session alone, and that node alone
abbrev pub only_7 : List ℕ
only_7 = 7 ∷ []

abbrev pub only_a : List Path
only_a = at_a ∷ []

-- a tick's reply: its time, how many sessions ended, and how many nodes went
abbrev pub ticked : Tree → ℕ → ℕ → Reply
ticked t ended gone = reply.Ticked (t.time + 1) ended gone

-- what a tick leaves and reports that ended that many sessions and took that many nodes, which left
-- the second tree of the first
abbrev pub leaves : Tree → Tree → ℕ → ℕ → Tree × Reply
leaves t u ended gone = (with_next_zxid (with_next_tick u), ticked t ended gone)
