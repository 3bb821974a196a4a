-- A machine restored from rows: the root, the sessions, the other nodes and the cached replies.
-- Here are the state that rows make, and which rows can be put. The rows of a state are this
-- project's profile.
use Rattle.std.specs.Prelude.{ℕ, ◌*◌, ◌<◌, ◌≤◌, length}
use Rattle.std.specs.FinMap.{empty, insert}
use Rattle.ztree.specs.declared.limits.TheConstants.{ZXID_BOUND, TICK_BOUND}
use Rattle.ztree.specs.declared.limits.TreeLimits.{TreeLimits}
use Rattle.ztree.specs.declared.node.Node.{Node}
use Rattle.ztree.specs.declared.session.Session.{Session}
use Rattle.ztree.specs.Limits.{AreLimits}
use Rattle.ztree.specs.Tree.{Tree, Path}
use Rattle.ztree.specs.Lawful.{AllNodes}
use Rattle.zstore.specs.Restored.{rooted_tree, CanBeRoot, CanPut, CanPutSession}
use Rattle.zcalls.specs.declared.limits.TheConstants.{MOST_PARTS, MAX_RAISES}
use Rattle.zcalls.specs.declared.reply.Reply.{Reply}
use Rattle.zcalls.specs.declared.reply.Reply.TheVariants as reported
use Rattle.zcalls.specs.Bounds.{IsWithin, IsGranted}
use Rattle.zops.specs.declared.limits.TheConstants.{MAX_APPLIED}
use Rattle.zops.specs.Machine.{MachineState}

-- the root alone, at this tick, after this change and that many entries, within these limits; no
-- reply is cached
abbrev pub rooted_machine : Node → ℕ → ℕ → ℕ → TreeLimits → MachineState
rooted_machine root time zxid applied limits =
    record {
      service = record { plain = rooted_tree root time zxid limits; kept = empty };
      applied = applied;
    }

-- the state with another tree
abbrev pub with_plain : MachineState → Tree → MachineState
with_plain s t = record s { service = record s.service { plain = t } }

-- the state with this cached reply of the client
abbrev pub with_reply : MachineState → ℕ → ℕ → Reply → MachineState
with_reply s client number reply =
    record s {
      service = record s.service {
        kept = insert s.service.kept client (record { number = number; reply = reply });
      };
    }

-- The reply is one to an update: only these are cached. A multi has at most 1,024 parts.
abbrev pub IsOfUpdate : Reply → Type 0
IsOfUpdate (reported.Data bytes stat) = ⊥
IsOfUpdate (reported.Exists stat) = ⊥
IsOfUpdate (reported.Children names) = ⊥
IsOfUpdate (reported.Multi replies) = length replies ≤ MOST_PARTS
IsOfUpdate other = Unit {0}

-- no zxid of the node is above this one, and no tick of it is above this one
pub record IsDated (zxid time : ℕ) (n : Node) : Type 0 where
  pub czxid : n.czxid ≤ zxid
  pub mzxid : n.mzxid ≤ zxid
  pub pzxid : n.pzxid ≤ zxid
  pub ctime : n.ctime ≤ time
  pub mtime : n.mtime ≤ time

-- no node of the tree is of a later change or tick
abbrev pub AllDated : Tree → Type 0
AllDated t = AllNodes (IsDated t.zxid t.time) t.nodes

-- a machine can begin with this root, these numbers and these limits
pub record CanBegin (root : Node) (time zxid applied : ℕ) (limits : TreeLimits) : Type 0 where
  pub can : CanBeRoot root
  pub within : IsWithin (MAX_RAISES * zxid) root
  pub dated : IsDated zxid time root
  pub zxid_few : zxid < ZXID_BOUND
  pub time_few : time < TICK_BOUND
  pub applied_few : applied ≤ MAX_APPLIED
  pub allowed : AreLimits limits

-- the session can be put, and its numbers are bounded
pub record CanPutGranted (t : Tree) (id : ℕ) (s : Session) : Type 0 where
  pub can : CanPutSession t id s
  pub granted : IsGranted t.limits.timeout t.zxid id s

-- the node can be put, its numbers are bounded, and its zxids and ticks are at most the tree's
pub record CanPutNode (t : Tree) (path : Path) (n : Node) : Type 0 where
  pub can : CanPut t path n
  pub within : IsWithin (MAX_RAISES * t.zxid) n
  pub dated : IsDated t.zxid t.time n
