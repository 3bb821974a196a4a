-- The steps of an opening with chosen limits: whether the tree that was read has others is a flag.
use Rattle.std.specs.Prelude.{◌≡◌, ◌≢◌, ◌⊎◌, ℕ, Bool, true, false, List}
use Rattle.ztree.specs.declared.limits.TreeLimits.{TreeLimits}
use Rattle.ztree.specs.Tree.{Tree}
use Rattle.zstore.specs.Limiting.{IsFaultOf}
use Rattle.zstore.specs.Restored.{FitsWithin}
use Rattle.zjournal.specs.Journal.{Represents, size_of}
use Rattle.zjournal.specs.declared.journal.Journal.{Journal}
use Rattle.zjournal.specs.Scan.{joined}
use Rattle.zsnapshots.specs.folder.Texts.{snapshot_text, IsTextOf}
use Rattle.zdurable.specs.declared.fault.OpenFault.{OpenFault}
use Rattle.zdurable.specs.declared.fault.OpenFault.TheVariants as opening
use Rattle.zdurable.specs.DurableFront.{KeepsTree}
use Rattle.zdurable.specs.Faults.{IsSuchFile}

-- the flag says whether the tree has other limits; then it fits within the chosen ones
abbrev pub SaysOther : Bool → Tree → TreeLimits → Type 0
SaysOther false t limits = t.limits ≡ limits
SaysOther true t limits = (t.limits ≢ limits) × FitsWithin t limits

-- the tree has other limits and doesn't fit within the chosen ones, or memory ran out
abbrev pub IsOfLimits : Tree → TreeLimits → OpenFault → Type 0
IsOfLimits t limits (opening.Journal e) = ⊥
IsOfLimits t limits opening.Memory = Unit {0}
IsOfLimits t limits opening.NotRecords = ⊥
IsOfLimits t limits (opening.Limits e) = (t.limits ≢ limits) × IsFaultOf t limits e
IsOfLimits t limits (opening.Renewal e) = ⊥

-- the batches of a journal that was opened: those of its file, or others whose text is this tree's
abbrev pub AreNext : Bool → Tree → List (List ℕ) → List (List ℕ) → Type 0
AreNext false t batches next = next ≡ batches
AreNext true t batches next = (joined next ≡ snapshot_text t) × IsTextOf t (joined next)

-- what a crash leaves meanwhile
abbrev pub IsFoundOr : Bool → ℕ → List (List ℕ) → Tree → List ℕ → Type 0
IsFoundOr false servers batches t file = Represents servers batches file
IsFoundOr true servers batches t file = Represents servers batches file ⊎ KeepsTree servers t file

-- why the journal isn't opened, or its file not replaced
abbrev pub IsSuchOpening : Bool → ℕ → List ℕ → OpenFault → Type 0
IsSuchOpening is_other servers file (opening.Journal e) = IsSuchFile servers file (opening.Journal e)
IsSuchOpening is_other servers file opening.Memory = ⊥
IsSuchOpening is_other servers file opening.NotRecords = ⊥
IsSuchOpening is_other servers file (opening.Limits e) = ⊥
IsSuchOpening is_other servers file (opening.Renewal e) = is_other ≡ true

-- the fault is one of the renewal
abbrev pub IsOfRenewal : OpenFault → Type 0
IsOfRenewal (opening.Journal e) = ⊥
IsOfRenewal opening.Memory = ⊥
IsOfRenewal opening.NotRecords = ⊥
IsOfRenewal (opening.Limits e) = ⊥
IsOfRenewal (opening.Renewal e) = Unit {0}

-- from where the growth is measured: the end of the file that replaced another
abbrev pub measure_if : {D : Type 0} → Bool → Journal D → ℕ
measure_if false journal = 0
measure_if true journal = size_of journal
