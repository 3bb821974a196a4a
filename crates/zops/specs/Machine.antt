-- The state machine: what a contract sees of it, and what an entry does to it.
use Rattle.std.specs.Prelude.{ℕ, ◌+◌, Bool, Option}
use Rattle.ztree.specs.declared.limits.TreeLimits.{TreeLimits}
use Rattle.ztree.specs.Limits.{profile}
use Rattle.ztree.specs.Tree.{Tree, opening_within}
use Rattle.zcalls.specs.declared.call.Entry.{Entry}
use Rattle.zcalls.specs.declared.reply.Reply.{Reply}
use Rattle.zcalls.specs.Cached.{CachedState, nothing_cached, entry_step}
use Rattle.zcalls.specs.Step.{step}

-- the state of a machine: its tree with the cached replies, and the number of entries applied
pub record MachineState : Type 0 where
  pub service : CachedState Tree
  pub applied : ℕ

-- the initial state within these limits: the initial tree, no cached reply, and no entry applied
abbrev pub machine_within : TreeLimits → MachineState
machine_within limits = record { service = nothing_cached (opening_within limits); applied = 0 }

-- the initial state within the limits of this project's profile
abbrev pub opening_machine : MachineState
opening_machine = machine_within profile

-- an entry applied by the entry step over the plain tree; it is counted whether it acts or not
unfoldable pub entry_result : MachineState → Entry → MachineState × Option Reply
entry_result s entry =
    let did = entry_step step s.service entry in
    (record { service = did.0; applied = s.applied + 1 }, did.1)

-- the state, and whether the machine has run out of memory
pub record MachineView : Type 0 where
  pub state : MachineState
  pub is_broken : Bool
