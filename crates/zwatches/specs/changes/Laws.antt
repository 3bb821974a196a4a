-- Laws of the events. The statement is the contract of a function in `src/laws.rt`. The source is
-- the ZooKeeper Programmer's Guide, "Semantics of Watches".
use Rattle.std.specs.Prelude.{◌≡◌, ◌≢◌, ℕ, Bool, true, false, List, Option}
use Rattle.std.specs.FinMap.{get}
use Rattle.std.specs.List.{AllByRecursion}
use Rattle.std.specs.Option.{option_map}
use Rattle.ztree.specs.Tree.{Tree, Path, Nodes}
use Rattle.ztree.specs.declared.node.Node.{Node}
use Rattle.zcalls.specs.declared.call.Update.{Update}
use Rattle.zcalls.specs.declared.call.Update.TheVariants.{Create, Delete, SetData, SetAcl, Multi, Open, Ping, Close, Tick}
use Rattle.zcalls.specs.Step.{step}
use Rattle.zjute.specs.declared.event.EventKind.{EventKind}
use Rattle.zjute.specs.declared.event.EventKind.TheVariants as kind
use Rattle.zwatches.specs.declared.changes.event.Event.{Event}
use Rattle.zwatches.specs.changes.Events.{events_of}

-- A node without what changes of its children alter, and without the version of its access control
-- list: no event tells of a write of this list (`DataTree.setACL` fires no watch).
abbrev pub but_children : Node → Node
but_children n = record n { pzxid = 0; cversion = 0; aversion = 0; seq = 0 }

-- the same for the node at a path, if it exists
abbrev pub data_at : Nodes → Path → Option Node
data_at nodes path = option_map but_children (get nodes path)

-- the zxid of the last change of the children of the node at a path, if it exists
abbrev pub children_at : Nodes → Path → Option ℕ
children_at nodes path = option_map (λ n. n.pzxid) (get nodes path)

-- the event reports a change of the node's data or existence
abbrev pub reports_data : EventKind → Bool
reports_data kind.NodeCreated = true
reports_data kind.NodeDeleted = true
reports_data kind.NodeDataChanged = true
reports_data other = false

-- the event reports a change of the node's children, or of its existence
abbrev pub reports_children : EventKind → Bool
reports_children kind.NodeCreated = true
reports_children kind.NodeDeleted = true
reports_children kind.NodeChildrenChanged = true
reports_children other = false

-- no event reports this of the path
abbrev pub Misses : (EventKind → Bool) → Path → List Event → Type 0
Misses reports path events = AllByRecursion (λ e. reports e.kind ≡ true → e.path ≢ path) events

-- the update ends a session or moves the clock: its reply doesn't name the deleted nodes
abbrev pub takes_away : Update → Bool
takes_away (Create create) = false
takes_away (Delete delete) = false
takes_away (SetData set) = false
takes_away (SetAcl set) = false
takes_away (Multi parts) = false
takes_away (Open ticks) = false
takes_away (Ping session) = false
takes_away (Close session) = true
takes_away Tick = true

-- the events report each change of the node at a path, of its data and of its children
pub record ReportsChanges (nodes changed : Nodes) (path : Path) (events : List Event) : Type 0 where
  pub of_data : Misses reports_data path events → data_at changed path ≡ data_at nodes path
  pub of_children : Misses reports_children path events → children_at changed path ≡ children_at nodes path

-- every change of an update has its event, unless the update ends a session or moves the clock
abbrev pub EventsReportEveryChange : Type 0
EventsReportEveryChange =
    (t : Tree) (client : ℕ) (update : Update) (path : Path) → takes_away update ≡ false
    → ReportsChanges t.nodes (step t client update).0.nodes path (events_of update (step t client update).1)
