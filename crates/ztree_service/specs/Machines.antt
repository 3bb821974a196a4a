-- The tree of a machine, and a fresh machine with a given tree.
use Rattle.std.specs.Prelude.{◌≡◌}
use Rattle.ztree.specs.Tree.{Tree}
use Rattle.zcalls.specs.Cached.{nothing_cached}
use Rattle.zops.specs.Machine.{MachineState, MachineView}

abbrev pub tree_in : MachineView → Tree
tree_in m = m.state.service.plain

-- a machine with this tree, no cached reply and no applied entry
abbrev pub machine_of : Tree → MachineState
machine_of t = record { service = nothing_cached t; applied = 0 }

-- the machine cached no reply and applied no entry
abbrev pub IsBare : MachineView → Type 0
IsBare m = m.state ≡ machine_of (tree_in m)
