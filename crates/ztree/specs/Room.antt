-- Room for one more change: what a call that changes the tree requires of its counters and
-- deadlines.
use Rattle.std.specs.Prelude.{◌≡◌, ℕ, ◌+◌, ◌<◌, Bool, if◌then◌else◌, length, Some}
use Rattle.std.specs.FinMap.{get}
use Rattle.ztree.specs.declared.limits.TheConstants.{COUNTER_BOUND, DEADLINE_BOUND}
use Rattle.ztree.specs.declared.node.Node.{Node}
use Rattle.ztree.specs.Tree.{Tree, Path, Nodes, parent_of, ephemerals}

-- every counter of the node can rise by one
abbrev pub HasRoom : Node → Type 0
HasRoom n =
    (n.version + 1 < COUNTER_BOUND) × (n.cversion + 1 < COUNTER_BOUND) × (n.seq + 1 < COUNTER_BOUND)
    × (n.aversion + 1 < COUNTER_BOUND)

-- the counters that a new child raises can rise
abbrev pub HasRoomForChild : Bool → Node → Type 0
HasRoomForChild sequential n = (n.cversion + 1 < COUNTER_BOUND) × (n.seq + (if sequential then 1 else 0) < COUNTER_BOUND)

-- the counter that the loss of `losses` children raises can rise by that many
abbrev pub HasRoomForLosses : ℕ → Node → Type 0
HasRoomForLosses losses n = n.cversion + losses < COUNTER_BOUND

-- the counter that a write of data raises can rise
abbrev pub HasRoomForData : Node → Type 0
HasRoomForData n = n.version + 1 < COUNTER_BOUND

-- the counter that a write of the access control list raises can rise
abbrev pub HasRoomForAcl : Node → Type 0
HasRoomForAcl n = n.aversion + 1 < COUNTER_BOUND

-- the parent of the path, if it exists, has the property
abbrev pub AtParent : Nodes → Path → (Node → Type 0) → Type 0
AtParent nodes path P = (n : Node) → get nodes (parent_of path) ≡ Some n → P n

-- the parent of every node that the session owns has the property
abbrev pub AtEphemeralParents : Nodes → ℕ → (Node → Type 0) → Type 0
AtEphemeralParents nodes session P = (path : Path) (n : Node) → get nodes path ≡ Some n → n.owner ≡ session → AtParent nodes path P

-- the session can end: its ephemerals can be removed one after the other
abbrev pub HasRoomForEnd : Tree → ℕ → Type 0
HasRoomForEnd t session = AtEphemeralParents t.nodes session (HasRoomForLosses (length (ephemerals t.nodes session)))

-- a deadline `timeout` ticks from now is in the future and below its bound
abbrev pub HasRoomForDeadline : ℕ → ℕ → Type 0
HasRoomForDeadline time timeout = (0 < timeout) × (time + timeout < DEADLINE_BOUND)
