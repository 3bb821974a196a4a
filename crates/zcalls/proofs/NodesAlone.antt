-- Parts of calls, and writes of access control lists, change the nodes alone.
use Rattle.std.proofs.Common.{ℕ, List, refl, ◌∙◌}
use Rattle.ztree.specs.Tree.{Tree}
use Rattle.zcalls.specs.declared.call.Part.{Part}
use Rattle.zcalls.specs.declared.change.Change.{Change}
use Rattle.zcalls.specs.declared.change.Change.TheVariants.{Create, Delete, SetData}
use Rattle.zcalls.specs.declared.call.SetAcl.{SetAcl as ToSetAcl}
use Rattle.zcalls.specs.Part.{change_step, acl_step, part_step}
use Rattle.zcalls.specs.Multi.{run}
use Rattle.zcalls.specs.support.Alone.{ChangesNodesAlone}
use Rattle.zcalls.proofs.Leaving.{Leaves, create_step-leaves, delete_step-leaves, set_step-leaves, acl_step-leaves, part_step-leaves, run-leaves}

pub alone_itself : (t : Tree) → ChangesNodesAlone t t
alone_itself t = record { zxid = refl; time = refl; sessions = refl; limits = refl }

pub alone_then : (t u v : Tree) → ChangesNodesAlone t u → ChangesNodesAlone u v → ChangesNodesAlone t v
alone_then t u v first second = record { zxid = second.zxid ∙ first.zxid; time = second.time ∙ first.time; sessions = second.sessions ∙ first.sessions; limits = second.limits ∙ first.limits }

-- from a tree that another was changed to in its nodes alone
module _ (t u : Tree) (is : ChangesNodesAlone t u) where
  changed : (client : ℕ) (change : Change) → Leaves (ChangesNodesAlone t) (change_step u client change)
  changed client (Create create) = create_step-leaves (ChangesNodesAlone t) u client create (λ e. record { zxid = is.zxid; time = is.time; sessions = is.sessions; limits = is.limits })
  changed client (Delete delete) = delete_step-leaves (ChangesNodesAlone t) u delete (λ e. record { zxid = is.zxid; time = is.time; sessions = is.sessions; limits = is.limits })
  changed client (SetData set) = set_step-leaves (ChangesNodesAlone t) u set (record { zxid = is.zxid; time = is.time; sessions = is.sessions; limits = is.limits })

  parted : (client : ℕ) (part : Part) → Leaves (ChangesNodesAlone t) (part_step u client part)
  parted client part =
      part_step-leaves (ChangesNodesAlone t) u client part
      (λ create. changed client (Create create)) (λ delete. changed client (Delete delete)) (λ set. changed client (SetData set)) is

pub change-alone : (t : Tree) (client : ℕ) (change : Change) → Leaves (ChangesNodesAlone t) (change_step t client change)
change-alone t = changed t t (alone_itself t)

pub acl-alone : (t : Tree) (set : ToSetAcl) → Leaves (ChangesNodesAlone t) (acl_step t set)
acl-alone t set = acl_step-leaves (ChangesNodesAlone t) t set (record { zxid = refl; time = refl; sessions = refl; limits = refl })

pub part-alone : (t : Tree) (client : ℕ) (wanted : Part) → Leaves (ChangesNodesAlone t) (part_step t client wanted)
part-alone t = parted t t (alone_itself t)

pub run-alone : (parts : List Part) (t : Tree) (client : ℕ) → Leaves (ChangesNodesAlone t) (run t client parts)
run-alone parts t client = run-leaves (ChangesNodesAlone t) (λ u client wanted is. parted t u is client wanted) parts t client (alone_itself t)
