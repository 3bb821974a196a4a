-- Terms: which znodes a tick removes. The source is the ZooKeeper Programmer's Guide, "TTL Nodes"
-- and "Container Nodes". Time is counted in ticks, and a tick removes exactly the nodes that are
-- due: that is this project's profile.
use Rattle.std.specs.Prelude.{ℕ, ◌+◌, ◌==◌, ◌&&◌, Bool, true, false, List, length, None, Some, if◌then◌else◌, nat_lt, nat_le}
use Rattle.std.specs.Option.{option_map_or}
use Rattle.std.specs.FinMap.{get, entries}
use Rattle.std.specs.List.{filter_map}
use Rattle.ztree.specs.declared.term.Term.{Term}
use Rattle.ztree.specs.declared.term.Term.TheVariants.{Unlimited, Timed, Container}
use Rattle.ztree.specs.declared.node.Node.{Node}
use Rattle.ztree.specs.Tree.{Path, Nodes, children}

-- a tick may remove a node of this term at some time
abbrev pub may_end : Term → Bool
may_end Unlimited = false
may_end (Timed ttl) = true
may_end Container = true

-- The node's term is over at the tick, if this is its term. A TTL is counted from the last write of
-- the data. A container's term is over once it has had a child: then `cversion` is above 0.
abbrev pub is_over : ℕ → Node → Term → Bool
is_over tick n Unlimited = false
is_over tick n (Timed ttl) = nat_le (n.mtime + ttl) tick
is_over tick n Container = nat_lt 0 n.cversion

-- the node's TTL has expired at the tick, or it is a container that has had a child
abbrev pub is_due : ℕ → Node → Bool
is_due tick n = is_over tick n n.term

-- the path has no children
abbrev pub is_leaf : Nodes → Path → Bool
is_leaf nodes path = length (children nodes path) == 0

-- a tick removes the node: it is due, and it has no children
abbrev pub is_stale : Nodes → ℕ → Path → Node → Bool
is_stale nodes tick path n = is_due tick n && is_leaf nodes path

-- the node at the path exists, and a tick removes it
abbrev pub is_stale_at : Nodes → ℕ → Path → Bool
is_stale_at nodes tick path = option_map_or (is_stale nodes tick path) (get nodes path) false

-- the paths of the nodes that a tick removes, in the order of paths
abbrev pub stale_nodes : Nodes → ℕ → List Path
stale_nodes nodes tick = filter_map (λ e. if is_stale nodes tick e.0 e.1 then Some e.0 else None) (entries nodes)
