-- Laws of nodes that a tick may remove: those with a TTL, and containers. Each is the contract of a
-- function in `src/laws.rt`. The source is the ZooKeeper Programmer's Guide, "TTL Nodes" and
-- "Container Nodes".
use Rattle.std.specs.Prelude.{◌≡◌, ℕ, ◌+◌, ◌<◌, Bool, true, false, not, List, Some, if◌then◌else◌}
use Rattle.std.specs.List.{list_any}
use Rattle.std.specs.Ordering.{eq_by_cmp}
use Rattle.std.specs.FinMap as finite
use Rattle.zpath.specs.Grammar.{path_cmp}
use Rattle.ztree.specs.Limits.{AreLimits}
use Rattle.ztree.specs.Tree.{Tree, Path, opening_within, has_node}
use Rattle.ztree.specs.Stale.{may_end, is_due, is_stale}
use Rattle.ztree.specs.Lawful.{IsPersistent, IsLawful}
use Rattle.ztree.specs.declared.term.Term.TheVariants.{Timed}
use Rattle.ztree.specs.declared.limits.TreeLimits.{TreeLimits}
use Rattle.ztree.specs.declared.node.Node.{Node}
use Rattle.ztree.specs.declared.node.Stat.{Stat}
use Rattle.zcalls.specs.declared.call.SetData.{SetData as ToSet}
use Rattle.zcalls.specs.declared.call.Update.{Update}
use Rattle.zcalls.specs.declared.call.Update.TheVariants.{Create, Delete, SetData, SetAcl, Multi, Open, Ping, Close, Tick}
use Rattle.zcalls.specs.declared.call.Part.{Part}
use Rattle.zcalls.specs.declared.call.Part.TheVariants as part
use Rattle.zcalls.specs.declared.reply.Reply.TheVariants as reply
use Rattle.zcalls.specs.Step.{step, is_exhausted, is_busy, due_next, stale_next}
use Rattle.zcalls.specs.CallRuns.{after_calls}

-- A tick that isn't refused removes a node with a TTL exactly when the TTL has expired, and a
-- container exactly when it has had children. Either goes only if it had no children before the
-- tick.
abbrev pub TickRemovesTheStale : Type 0
TickRemovesTheStale =
    (t : Tree) (client : ℕ) (path : Path) (n : Node)
    → IsLawful t → is_exhausted t Tick ≡ false → finite.get t.nodes path ≡ Some n → may_end n.term ≡ true
    → has_node (step t client Tick).0.nodes path ≡ not (is_stale t.nodes (t.time + 1) path n)

-- the node exists; if it has a TTL, that hasn't expired at any tick less than a whole TTL after
-- this time
abbrev pub IsPutOff : ℕ → Path → Tree → Type 0
IsPutOff time path t = (n : Node) × (finite.get t.nodes path ≡ Some n) × ((ttl ticks : ℕ) → n.term ≡ Timed ttl → ticks < ttl → is_due (time + ticks) n ≡ false)

-- a successful set restarts the TTL of its node
abbrev pub SetPutsOff : Type 0
SetPutsOff =
    (t : Tree) (client : ℕ) (set : ToSet) (stat : Stat)
    → (step t client (SetData set)).1 ≡ reply.Set stat → IsPutOff t.time set.path (step t client (SetData set)).0

-- after any calls from an initial tree, no session owns a node with a TTL or a container: it is
-- never an ephemeral
abbrev pub NobodyOwnsTheTimed : Type 0
NobodyOwnsTheTimed =
    (limits : TreeLimits) → AreLimits limits
    → (calls : List (ℕ × Update)) (path : Path) (n : Node)
    → finite.get (after_calls (opening_within limits) calls).nodes path ≡ Some n → may_end n.term ≡ true → n.owner ≡ 0

-- the part of a multi is a delete of the node at the path
abbrev pub part_deletes : Path → Part → Bool
part_deletes path (part.Create create) = false
part_deletes path (part.Delete delete) = eq_by_cmp path_cmp path delete.path
part_deletes path (part.SetData set) = false
part_deletes path (part.Check check) = false

-- the call may remove the node at the path even if it has no owner: it deletes the node, or is a
-- tick
abbrev pub may_remove : Path → Update → Bool
may_remove path (Create create) = false
may_remove path (Delete delete) = eq_by_cmp path_cmp path delete.path
may_remove path (SetData set) = false
may_remove path (SetAcl set) = false
may_remove path (Multi parts) = list_any (part_deletes path) parts
may_remove path (Open ticks) = false
may_remove path (Ping session) = false
may_remove path (Close session) = false
may_remove path Tick = true

-- a node without an owner, such as one with a TTL or a container, disappears only by a delete of it
-- or a tick
abbrev pub LastsUntilRemoved : Type 0
LastsUntilRemoved =
    (t : Tree) (client : ℕ) (update : Update) (path : Path)
    → IsLawful t → IsPersistent (finite.get t.nodes path) → may_remove path update ≡ false
    → has_node (step t client update).0.nodes path ≡ true

-- a tick takes one zxid for all that it ends and removes, and none if there is nothing
abbrev pub TickTakesOneZxid : Type 0
TickTakesOneZxid =
    (t : Tree) (client : ℕ) → is_exhausted t Tick ≡ false
    → (step t client Tick).0.zxid ≡ t.zxid + (if is_busy (due_next t) (stale_next t) then 1 else 0)
