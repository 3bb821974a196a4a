-- When each fault occurs, and what it leaves.
use Rattle.std.specs.Prelude.{◌≡◌, ◌≢◌, ◌≤◌, ◌^◌, ℕ, List}
use Rattle.ztree.specs.declared.limits.TreeLimits.{TreeLimits}
use Rattle.ztree.specs.Tree.{Tree}
use Rattle.zstore.specs.Limiting.{IsFaultOf}
use Rattle.zstore.specs.declared.limit_fault.LimitFault.{LimitFault}
use Rattle.zstore.specs.declared.limit_fault.LimitFault.TheVariants as limit
use Rattle.zjournal.specs.declared.fault.PutError.{PutError}
use Rattle.zjournal.specs.declared.fault.PutError.TheVariants as put
use Rattle.zjournal.specs.declared.fault.OpenError.TheVariants as fault
use Rattle.zjournal.specs.Faults.{IsOfContent, IsSuch}
use Rattle.zjournal.specs.Journal.{Represents, size_of}
use Rattle.zjournal.specs.Scan.{joined}
use Rattle.zdurable.specs.declared.fault.OpenFault.{OpenFault}
use Rattle.zdurable.specs.declared.fault.OpenFault.TheVariants as opening
use Rattle.zdurable.specs.declared.fault.DurableFault.{DurableFault}
use Rattle.zdurable.specs.declared.fault.DurableFault.TheVariants as ending
use Rattle.zdurable.specs.declared.kept.DurableFront.{DurableFront}
use Rattle.zsnapshots.specs.declared.folder.fault.ReadFault.{ReadFault}
use Rattle.zsnapshots.specs.declared.folder.fault.ReadFault.TheVariants as read
use Rattle.zsnapshots.specs.folder.Texts.{IsNoText}
use Rattle.zdurable.specs.DurableFront.{IsOpen}
use Rattle.zdurable.specs.Incarnations.{FileKeeps}

-- what a fault of reading becomes for an opening, and one of a put for the service
abbrev pub read_fault : ReadFault → OpenFault
read_fault read.Memory = opening.Memory
read_fault read.NotRecords = opening.NotRecords

-- what a refusal of limits becomes for an opening
abbrev pub limit_fault : LimitFault → OpenFault
limit_fault limit.NotLimits = opening.Limits limit.NotLimits
limit_fault (limit.Nodes count) = opening.Limits (limit.Nodes count)
limit_fault (limit.Sessions count) = opening.Limits (limit.Sessions count)
limit_fault (limit.Timeout ticks) = opening.Limits (limit.Timeout ticks)
limit_fault limit.Memory = opening.Memory

abbrev pub put_fault : PutError → DurableFault
put_fault put.Memory = ending.Memory
put_fault put.Failed = ending.Failed
put_fault put.Full = ending.Full
put_fault put.NotText = ending.Ended
put_fault put.Closed = ending.Ended

-- the service takes nothing more; if it had ended before, it is unchanged
abbrev pub IsLeftBy : {D : Type 0} → DurableFault → DurableFront D → DurableFront D → Type 0
IsLeftBy ending.Memory old new = IsOpen new → ⊥
IsLeftBy ending.Failed old new = IsOpen new → ⊥
IsLeftBy ending.Full old new = IsOpen new → ⊥
IsLeftBy ending.Ended old new = (new ≡ old) × (IsOpen old → ⊥)

-- an input finds no memory, or the service had ended: an input makes no device calls
abbrev pub IsOfInput : DurableFault → Type 0
IsOfInput ending.Memory = Unit {0}
IsOfInput ending.Failed = ⊥
IsOfInput ending.Full = ⊥
IsOfInput ending.Ended = Unit {0}

-- the file has 2 ^ 60 bytes
abbrev pub IsFull : {D : Type 0} → DurableFront D → Type 0
IsFull kept = 2 ^ 60 ≤ size_of kept.journal

-- the fault leaves the file unchanged: it is one of the file's content, or of reading it
abbrev pub IsOfReading : OpenFault → Type 0
IsOfReading (opening.Journal e) = IsOfContent e
IsOfReading opening.Memory = Unit {0}
IsOfReading opening.NotRecords = Unit {0}
IsOfReading (opening.Limits e) = Unit {0}
IsOfReading (opening.Renewal e) = ⊥

-- the file is as the fault says; Memory and Failed say nothing of it. No fault is of chosen limits
abbrev pub IsSuchFile : ℕ → List ℕ → OpenFault → Type 0
IsSuchFile servers file (opening.Journal e) = IsSuch servers file e
IsSuchFile servers file opening.Memory = Unit {0}
IsSuchFile servers file opening.NotRecords = (batches : List (List ℕ)) × Represents servers batches file × IsNoText (joined batches)
IsSuchFile servers file (opening.Limits e) = ⊥
IsSuchFile servers file (opening.Renewal e) = ⊥

-- The same of a file that is opened with chosen limits. Its tree doesn't fit within them, for this
-- reason; or it has others, and the file that is to replace it failed.
abbrev pub IsSuchFileWithin : TreeLimits → ℕ → List ℕ → OpenFault → Type 0
IsSuchFileWithin limits servers file (opening.Journal e) = IsSuchFile servers file (opening.Journal e)
IsSuchFileWithin limits servers file opening.Memory = IsSuchFile servers file opening.Memory
IsSuchFileWithin limits servers file opening.NotRecords = IsSuchFile servers file opening.NotRecords
IsSuchFileWithin limits servers file (opening.Limits e) =
    (found : Tree) × FileKeeps servers found file × (found.limits ≢ limits) × IsFaultOf found limits e
IsSuchFileWithin limits servers file (opening.Renewal e) =
    (found : Tree) × FileKeeps servers found file × (found.limits ≢ limits)

-- the disk failed while the service was opened
abbrev pub disk_failed : OpenFault
disk_failed = opening.Journal fault.Failed
