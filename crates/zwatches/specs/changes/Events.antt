-- The events of a call: those of a node, and those of its parent. The source is the ZooKeeper
-- Programmer's Guide, "ZooKeeper Watches"; the events are those of ZooKeeper's
-- `Watcher.Event.EventType`. A reply doesn't name the nodes that a tick or the end of a session
-- deletes, so these have no event here.
use Rattle.std.specs.Prelude.{List, [], ◌∷◌, ◌++◌}
use Rattle.ztree.specs.Tree.{Path, parent_of}
use Rattle.zcalls.specs.declared.call.Part.{Part}
use Rattle.zcalls.specs.declared.call.Part.TheVariants as part
use Rattle.zcalls.specs.declared.call.Update.{Update}
use Rattle.zcalls.specs.declared.call.Update.TheVariants as act
use Rattle.zcalls.specs.declared.reply.PartReply.{PartReply}
use Rattle.zcalls.specs.declared.reply.PartReply.TheVariants as part_reply
use Rattle.zcalls.specs.declared.reply.Reply.{Reply}
use Rattle.zcalls.specs.declared.reply.Reply.TheVariants as reply
use Rattle.zjute.specs.declared.event.EventKind.{EventKind}
use Rattle.zjute.specs.declared.event.EventKind.TheVariants.{NodeCreated, NodeDeleted, NodeDataChanged, NodeChildrenChanged}
use Rattle.zwatches.specs.declared.changes.event.Event.{Event}

-- this happened to the node at the path
abbrev pub event : EventKind → Path → Event
event kind path = record { kind = kind; path = path }

-- a node was created or deleted, and the children of its parent changed
abbrev pub with_parent : EventKind → Path → List Event
with_parent kind path = event kind path ∷ event NodeChildrenChanged (parent_of path) ∷ []

-- the events of one part of a multi, by its reply
abbrev pub part_events : Part → PartReply → List Event
part_events (part.Create create) (part_reply.Created path) = with_parent NodeCreated path
part_events (part.Delete delete) part_reply.Deleted = with_parent NodeDeleted delete.path
part_events (part.SetData set) (part_reply.Set stat) = event NodeDataChanged set.path ∷ []
part_events part reply = []

-- the events of the parts, in order
abbrev pub parts_events : List Part → List PartReply → List Event
parts_events (part ∷ parts) (reply ∷ replies) = part_events part reply ++ parts_events parts replies
parts_events parts replies = []

-- the events of an update, by its reply; a refused update has none, and a write of an access
-- control list has none
abbrev pub events_of : Update → Reply → List Event
events_of (act.Create create) (reply.Created path) = with_parent NodeCreated path
events_of (act.Delete delete) reply.Deleted = with_parent NodeDeleted delete.path
events_of (act.SetData set) (reply.Set stat) = event NodeDataChanged set.path ∷ []
events_of (act.Multi parts) (reply.Multi replies) = parts_events parts replies
events_of update reply = []
