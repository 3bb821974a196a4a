-- The view of a tree in memory, and what each step does to it.
use Rattle.std.specs.Prelude.{◌≡◌, ◌≤◌, Bool, false, List, map, Some}
use Rattle.std.specs.List.{AllByRecursion}
use Rattle.std.specs.FinMap.{get}
use Rattle.ztree.specs.declared.node.Node.{Node}
use Rattle.ztree.specs.Tree.{Path, Tree}
use Rattle.zcalls.specs.Cached.{last_of}
use Rattle.zstore.specs.Restored.{with_rows}
use Rattle.zops.specs.Machine.{MachineState, MachineView}
use Rattle.zops.specs.Restored.{with_plain}
use Rattle.zops.specs.RestoredLaws.{CanPutAllNodes}
use Rattle.ztree_service.specs.Local.{LocalTreeView}
use Rattle.ztree_service.specs.Machines.{machine_of, tree_in}

abbrev pub view_in : MachineView → Bool → LocalTreeView
view_in machine is_broken = record { tree = tree_in machine; is_broken = is_broken }

-- the machine answers, and no entry of client 0 has a number above its count
pub record IsReady (m : MachineView) : Type 0 where
  pub whole : m.is_broken ≡ false
  pub counted : last_of (get m.state.service.kept 0) ≤ m.state.applied

-- unless memory ran out, the machine is ready
abbrev pub IsSound : MachineView → Bool → Type 0
IsSound m is_broken = is_broken ≡ false → IsReady m

-- these paths are still to be restored; after that the machine has this tree
pub record NodesAreLeft (t : Tree) (s : MachineState) (paths : List Path) : Type 0 where
  pub rows : List (Path × Node)
  pub named : paths ≡ map (λ e. e.0) rows
  pub there : AllByRecursion (λ e. get t.nodes e.0 ≡ Some e.1) rows
  pub can : CanPutAllNodes s.service.plain rows
  pub whole : with_plain s (with_rows s.service.plain rows) ≡ machine_of t
