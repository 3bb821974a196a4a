-- The check of watched nodes: which of them a tick or the end of a session deleted, and which lost
-- a child. The source is the ZooKeeper Programmer's Guide, "ZooKeeper Watches". All these deletions
-- are one change, so its zxid identifies them.
use Rattle.std.specs.Prelude.{ℕ, List, [], ◌∷◌, ◌++◌, ◌==◌, if◌then◌else◌}
use Rattle.ztree.specs.Tree.{Path}
use Rattle.ztree.specs.declared.node.Stat.{Stat}
use Rattle.zcalls.specs.declared.reply.Reply.{Reply}
use Rattle.zcalls.specs.declared.reply.Reply.TheVariants as reply
use Rattle.zcalls.specs.declared.refusal.Refusal.TheVariants.{NoNode}
use Rattle.zjute.specs.declared.event.EventKind.TheVariants.{NodeDeleted, NodeChildrenChanged}
use Rattle.zwatches.specs.declared.changes.event.Event.{Event}
use Rattle.zwatches.specs.changes.Events.{event}

-- the children of an existing node changed with this zxid
abbrev pub children_seen : ℕ → Path → Stat → List Event
children_seen zxid path stat = if stat.pzxid == zxid then event NodeChildrenChanged path ∷ [] else []

-- the events at the path of a node that existed before
abbrev pub seen_at : ℕ → Path → Reply → List Event
seen_at zxid path (reply.Refused NoNode) = event NodeDeleted path ∷ []
seen_at zxid path (reply.Exists stat) = children_seen zxid path stat
seen_at zxid path reported = []

-- and at all paths
abbrev pub seen : ℕ → List Path → List Reply → List Event
seen zxid (path ∷ paths) (reported ∷ replies) = seen_at zxid path reported ++ seen zxid paths replies
seen zxid paths replies = []
