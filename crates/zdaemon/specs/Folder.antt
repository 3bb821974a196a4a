-- What a server with a folder does between two of its states, in the words of its host.
use Rattle.std.specs.Prelude.{◌≡◌, ℕ, Bool, true, false, List, length, Option, None, Some}
use Rattle.std.specs.Option.{is_some}
use Rattle.zfront.specs.Inputs.{Does}
use Rattle.zfront.specs.Restoring.{all_taken}
use Rattle.zdurable.specs.Compaction.{growth_after}
use Rattle.zdurable.specs.declared.kept.DurableFront.{DurableFront}
use Rattle.zdurable.specs.DurableFront.{front_in, made_in, more_if, is_long, growth_of, measured_from, IsOpen, IsSameFile, IsServing, IsSound, chunk_in, without_chunk}
use Rattle.zconnections.specs.buffers.Inputs.{InputView}
use Rattle.zconnections.specs.buffers.Outbox.{ChunkView}
use Rattle.zsnapshots.specs.folder.States.{after}
use Rattle.zsnapshots.specs.folder.Texts.{snapshot_text}
use Rattle.zjournal.specs.Journal.{size_of}
use Rattle.zjournal.specs.Scan.{joined}
use Rattle.zdaemon.specs.declared.folder.InFolder.{InFolder}
use Rattle.ztree.specs.Tree.{Tree}

-- the growth of the journal afterwards, if a new part was to be begun
abbrev pub growth_by : Option Bool → ℕ → ℕ
growth_by None growth = growth
growth_by (Some begun) growth = growth_after begun growth

module _ {D : Type 0} (seen : D → List ℕ) (may_leave : D → List ℕ → Type 0) where
  -- it is open, and what it sent is durable
  abbrev pub IsGood : DurableFront D → Type 0
  IsGood kept = IsOpen kept × IsSound seen may_leave kept

  -- its front end does this, and the file is not touched
  pub record Takes (input : InputView) (old new : DurableFront D) : Type 0 where
    pub does : Does input (front_in old) (front_in new)
    pub same : IsSameFile old new
    pub keeps : (servers : ℕ) (batches : List (List ℕ)) (t : Tree) → IsServing seen may_leave servers batches t old
        → IsServing seen may_leave servers batches t new

  -- Its changes are committed, and none is left: the file holds the tree that they leave. If the
  -- journal had grown long by then, a new part was to be begun.
  pub record Keeps (long : ℕ) (old new : DurableFront D) : Type 0 where
    pub committed : DurableFront D
    pub from : measured_from committed ≡ measured_from old
    pub begun : Option Bool
    pub tried : is_some begun ≡ is_long long committed
    pub measured : growth_of new ≡ growth_by begun (growth_of committed)
    pub taken : front_in new ≡ all_taken (front_in old)
    pub keeps : (servers : ℕ) (batches : List (List ℕ)) (t : Tree) → IsServing seen may_leave servers batches t old
        → IsServing seen may_leave servers (more_if (made_in old) batches) (after t (made_in old)) committed
        × IsServing seen may_leave servers (more_if (made_in old) batches) (after t (made_in old)) new

  -- its journal was written anew, with the tree alone, and nothing is left to commit
  pub record IsWrittenAnew (old new : DurableFront D) : Type 0 where
    pub taken : front_in new ≡ all_taken (front_in old)
    pub measured : measured_from new ≡ size_of new.journal
    pub keeps : (servers : ℕ) (batches : List (List ℕ)) (t : Tree) → IsServing seen may_leave servers batches t old
        → (next : List (List ℕ)) × IsServing seen may_leave servers next (after t (made_in old)) new
        × (joined next ≡ snapshot_text (after t (made_in old)))

  -- what an opening mends: if a sync had failed before, the journal is written anew
  abbrev pub IsMended : Bool → DurableFront D → DurableFront D → Type 0
  IsMended false old new = new ≡ old
  IsMended true old new = IsWrittenAnew old new

-- its next chunk is sent, which it has only while all its changes are durable
abbrev pub IsReported : {D : Type 0} → ChunkView → DurableFront D → DurableFront D → Type 0
IsReported chunk old new = (chunk_in old ≡ Some chunk) × (new ≡ without_chunk old)

-- it has no chunk
abbrev pub HasReported : {D : Type 0} → DurableFront D → Type 0
HasReported kept = chunk_in kept ≡ None

-- how many chunks its front end has
abbrev pub chunks_left : {D : Type 0} → DurableFront D → ℕ
chunks_left kept = length (front_in kept).tables.unsent

module _ {D : Type 0} (seen : D → List ℕ) (may_leave : D → List ℕ → Type 0) where
  -- The same of a server with a folder: from which length on its journal is long never changes.
  abbrev pub TakesIn : InFolder D → InputView → InFolder D → Type 0
  TakesIn old input new = (new.long ≡ old.long) × Takes seen may_leave input old.kept new.kept

  abbrev pub KeepsIn : InFolder D → InFolder D → Type 0
  KeepsIn old new = (new.long ≡ old.long) × Keeps seen may_leave old.long old.kept new.kept

abbrev pub ReportsIn : {D : Type 0} → InFolder D → ChunkView → InFolder D → Type 0
ReportsIn old chunk new = (new.long ≡ old.long) × IsReported chunk old.kept new.kept

abbrev pub HasReportedIn : {D : Type 0} → InFolder D → Type 0
HasReportedIn old = HasReported old.kept
