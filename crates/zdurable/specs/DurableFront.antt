-- A front end whose changes are made durable in a journal.
use Rattle.std.specs.Prelude.{◌≡◌, ◌==◌, ◌&&◌, ◌/◌, ◌-◌, nat_le, ℕ, Bool, true, false, List, [], ◌∷◌, ◌++◌, length, Option, None, if◌then◌else◌}
use Rattle.std.specs.FinMap as finite
use Rattle.ztree.specs.Tree.{Tree}
use Rattle.ztree.specs.Counts.{data_count}
use Rattle.zjournal.specs.Journal.{IsAtRest, Keeps, device_of, size_of}
use Rattle.zjournal.specs.Journal as journal
use Rattle.zjournal.specs.Scan.{joined}
use Rattle.zconnections.specs.buffers.Outbox.{ChunkView, first_of}
use Rattle.zsnapshots.specs.folder.Entries.{Entry, entries_text}
use Rattle.zsnapshots.specs.folder.Texts.{IsTextOf}
use Rattle.zfront.specs.Front.{FrontView}
use Rattle.zfront.specs.Inputs.{without_first}
use Rattle.zdurable.specs.declared.kept.DurableFront.{DurableFront}
use Rattle.zdurable.specs.Making.{HasKept}

-- the device that holds its file, its front end, the changes since the last commit, and whether it
-- takes inputs
abbrev pub disk_of : {D : Type 0} → DurableFront D → D
disk_of kept = device_of kept.journal

abbrev pub front_in : {D : Type 0} → DurableFront D → FrontView
front_in kept = kept.front.front

abbrev pub made_in : {D : Type 0} → DurableFront D → List Entry
made_in kept = (front_in kept).made

abbrev pub IsOpen : {D : Type 0} → DurableFront D → Type 0
IsOpen kept = kept.is_open ≡ true

-- ---- what is durable

-- the file holds these batches, all of it durable; their text is that of this tree, and this is
-- what is durable of the front end's changes
pub record IsServing {D : Type 0} (seen : D → List ℕ) (may_leave : D → List ℕ → Type 0) (servers : ℕ) (batches : List (List ℕ)) (t : Tree) (kept : DurableFront D) : Type 0 where
  pub rest : IsAtRest seen may_leave servers batches kept.journal
  pub takes : journal.IsOpen kept.journal
  pub sound : kept.front.is_broken ≡ false
  pub text : IsTextOf t (joined batches)
  pub has : HasKept t (front_in kept)

-- a service that takes inputs serves some batches
abbrev pub IsSound : {D : Type 0} → (D → List ℕ) → (D → List ℕ → Type 0) → DurableFront D → Type 0
IsSound seen may_leave kept =
    IsOpen kept → (servers : ℕ) × (batches : List (List ℕ)) × (t : Tree) × IsServing seen may_leave servers batches t kept

-- the batches with the text of the changes after them. Without changes, no block is written
abbrev pub more_if : List Entry → List (List ℕ) → List (List ℕ)
more_if [] batches = batches
more_if (entry ∷ made) batches = batches ++ entries_text (entry ∷ made) ∷ []

-- from where the growth of the journal is measured: where its last part was begun, or the end of the
-- file that replaced another; 0 before that. If a part couldn't be begun, halfway from there
abbrev pub measured_from : {D : Type 0} → DurableFront D → ℕ
measured_from kept = kept.measured

abbrev pub growth_of : {D : Type 0} → DurableFront D → ℕ
growth_of kept = size_of kept.journal - measured_from kept

-- a new part is to be begun: the journal has grown by this many bytes, by four times those of the
-- tree's data, and by 512 for each node
abbrev pub has_grown : ℕ → ℕ → ℕ → ℕ → Bool
has_grown least bytes nodes growth = nat_le least growth && nat_le bytes (growth / 4) && nat_le nodes (growth / 512)

abbrev pub is_long : {D : Type 0} → ℕ → DurableFront D → Bool
is_long least kept =
    let nodes = (front_in kept).tree.nodes in has_grown least (data_count nodes) (finite.len nodes) (growth_of kept)

-- the file holds batches whose text is this tree's
abbrev pub KeepsTree : ℕ → Tree → List ℕ → Type 0
KeepsTree servers t file = (batches : List (List ℕ)) × Keeps servers batches file × IsTextOf t (joined batches)

-- ---- inputs

-- at most the front end changes, and whether the service is open: the file is not touched
abbrev pub IsSameFile : {D : Type 0} → DurableFront D → DurableFront D → Type 0
IsSameFile old new = new ≡ record old { front = new.front; is_open = new.is_open }

-- ---- chunks

-- chunks can be taken: the service is open, and nothing is left to commit
abbrev pub reports : {D : Type 0} → DurableFront D → Bool
reports kept = kept.is_open && (length (made_in kept) == 0)

-- the chunk to be sent first
abbrev pub chunk_in : {D : Type 0} → DurableFront D → Option ChunkView
chunk_in kept = if reports kept then first_of (front_in kept).tables.unsent else None

-- and what is left once it was taken
abbrev pub with_front : {D : Type 0} → FrontView → DurableFront D → DurableFront D
with_front v kept = record kept { front = record kept.front { front = v } }

abbrev pub without_chunk : {D : Type 0} → DurableFront D → DurableFront D
without_chunk kept = if reports kept then with_front (without_first (front_in kept)) kept else kept
