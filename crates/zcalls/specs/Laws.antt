-- Laws of the sequential step, over all trees. Each is the contract of a function in `src/laws.rt`.
use Rattle.std.specs.Prelude.{◌≡◌, ℕ, List, length, if◌then◌else◌}
use Rattle.std.specs.Option.{option_map}
use Rattle.std.specs.Ordering.{eq_by_cmp}
use Rattle.std.specs.FinMap.{get}
use Rattle.std.specs.List.Sorted.{IsStrictlySortedBy}
use Rattle.zpath.specs.Grammar.{name_cmp, path_cmp}
use Rattle.ztree.specs.Tree.{Tree, Path, Name, with_acl}
use Rattle.ztree.specs.declared.node.Stat.{Stat}
use Rattle.zcalls.specs.declared.call.SetAcl.{SetAcl as ToSet}
use Rattle.zcalls.specs.declared.call.Update.{Update}
use Rattle.zcalls.specs.declared.call.Update.TheVariants.{SetAcl}
use Rattle.zcalls.specs.declared.call.Query.TheVariants.{Exists, GetChildren}
use Rattle.zcalls.specs.declared.refusal.Refusal.{Refusal}
use Rattle.zcalls.specs.declared.reply.Reply.TheVariants as reply
use Rattle.zcalls.specs.Step.{step, query_reply}

-- a refused call leaves the whole tree unchanged
abbrev pub RefusedChangesNothing : Type 0
RefusedChangesNothing =
    (t : Tree) (client : ℕ) (update : Update) (refusal : Refusal)
    → (step t client update).1 ≡ reply.Refused refusal → (step t client update).0 ≡ t

-- a multi that is refused in one part leaves the whole tree unchanged, whatever the earlier parts
-- did
abbrev pub RefusedMultiChangesNothing : Type 0
RefusedMultiChangesNothing =
    (t : Tree) (client : ℕ) (update : Update) (number : ℕ) (refusal : Refusal)
    → (step t client update).1 ≡ reply.MultiRefused number refusal → (step t client update).0 ≡ t

-- no call changes the limits of the tree
abbrev pub LimitsStay : Type 0
LimitsStay = (t : Tree) (client : ℕ) (update : Update) → (step t client update).0.limits ≡ t.limits

-- a write of an access control list changes nothing of any node but the count of its writes
abbrev pub AclIsCounted : Type 0
AclIsCounted =
    (t : Tree) (client : ℕ) (set : ToSet) (stat : Stat) (path : Path)
    → (step t client (SetAcl set)).1 ≡ reply.Set stat
    → get (step t client (SetAcl set)).0.nodes path
    ≡ (if eq_by_cmp path_cmp path set.path then option_map with_acl (get t.nodes path) else get t.nodes path)

-- the number of children in a stat is the number of names listed
abbrev pub CountsTheNames : Type 0
CountsTheNames =
    (t : Tree) (path : Path) (stat : Stat) (names : List Name)
    → query_reply t (Exists path) ≡ reply.Exists stat → query_reply t (GetChildren path) ≡ reply.Children names → stat.children ≡ length names

-- the names of the children are listed in byte order, each once
abbrev pub ListsInOrder : Type 0
ListsInOrder =
    (t : Tree) (path : Path) (names : List Name) → query_reply t (GetChildren path) ≡ reply.Children names → IsStrictlySortedBy name_cmp names
