-- How a journal is compacted: a file with the text of its tree replaces the old one. And how the parts
-- before its last one are: what the last part holds continues from either.
use Rattle.std.specs.Prelude.{◌≡◌, ◌⊎◌, ◌≤◌, ◌^◌, ◌/◌, ◌-◌, ℕ, Bool, true, false, List, ◌++◌, length, take}
use Rattle.ztree.specs.Tree.{Tree}
use Rattle.zjournal.specs.declared.journal.Journal.{Journal}
use Rattle.zjournal.specs.Blocks.{AreTexts, IsEnd, at_rest, blocks}
use Rattle.zjournal.specs.Checksum.{IsSum, stamped_all, sum_after_all}
use Rattle.zjournal.specs.Journal.{IsAtRest, Keeps, holdings}
use Rattle.zjournal.specs.Scan.{joined}
use Rattle.zsnapshots.specs.folder.Entries.{AreEntries, Entry, entries_text}
use Rattle.zsnapshots.specs.folder.States.{after}
use Rattle.zsnapshots.specs.folder.Texts.{snapshot_text, IsTextOf}
use Rattle.zdurable.specs.declared.kept.DurableFront.{DurableFront}
use Rattle.zdurable.specs.DurableFront.{made_in, IsServing, KeepsTree}

-- the file holds the old batches, or others whose text is this tree's
abbrev pub IsOldOrTree : ℕ → List (List ℕ) → Tree → List ℕ → Type 0
IsOldOrTree servers batches t file = Keeps servers batches file ⊎ KeepsTree servers t file

-- the file holds one of two trees: the old one, or the current one
abbrev pub KeepsEither : ℕ → Tree → Tree → List ℕ → Type 0
KeepsEither servers before now file = KeepsTree servers before file ⊎ KeepsTree servers now file

-- the new file would be too long: the blocks of the first chunks of its text have 2 ^ 60 bytes
abbrev pub IsTooLong : ℕ → Tree → Type 0
IsTooLong servers t = (chunks : List (List ℕ)) × (more : List ℕ) × (snapshot_text t ≡ joined chunks ++ more)
    × (2 ^ 60 ≤ length (blocks (holdings 1 servers chunks)))

-- the journal afterwards: it is at rest with the text of the tree
abbrev pub RestsAfter : {D : Type 0} → (D → List ℕ) → (D → List ℕ → Type 0) → ℕ → Tree → Journal D → Type 0
RestsAfter seen may_leave servers t journal =
    (next : List (List ℕ)) × IsAtRest seen may_leave servers next journal × (joined next ≡ snapshot_text t) × IsTextOf t (joined next)

-- the service afterwards: its file has the text of the current tree
abbrev pub ServesAfter : {D : Type 0} → (D → List ℕ) → (D → List ℕ → Type 0) → ℕ → Tree → DurableFront D → DurableFront D → Type 0
ServesAfter seen may_leave servers t old new =
    (next : List (List ℕ)) × IsServing seen may_leave servers next (after t (made_in old)) new × (joined next ≡ snapshot_text (after t (made_in old)))

-- its growth, once a new part was to be begun: none, or half of it if it couldn't be begun
abbrev pub growth_after : Bool → ℕ → ℕ
growth_after true growth = 0
growth_after false growth = growth / 2

-- ---- parts

-- A file at rest, whose last byte, the clear commit byte, is the first one of the part after it: this
-- is the content of both.
abbrev pub continued_by : List ℕ → List ℕ → List ℕ
continued_by file part = take (length file - 1) file ++ part

-- One file at rest can take the place of another, whatever follows it: both hold this tree, and the
-- checksum after their batches continues from the same sum.
pub record MayReplace (servers : ℕ) (t : Tree) (old new : List ℕ) : Type 0 where
  pub before : List (List ℕ)
  pub next : List (List ℕ)
  pub old_start : ℕ
  pub new_start : ℕ
  pub old_is_sum : IsSum old_start
  pub new_is_sum : IsSum new_start
  pub old_rests : old ≡ at_rest (holdings old_start servers before)
  pub new_rests : new ≡ at_rest (holdings new_start servers next)
  pub new_texts : AreTexts (holdings new_start servers next)
  pub old_texts : AreTexts (holdings old_start servers before)
  pub old_text : IsTextOf t (joined before)
  pub new_text : IsTextOf t (joined next)
  pub same_sum : sum_after_all old_start before ≡ sum_after_all new_start next

-- the old file, or one that can take its place
abbrev pub IsOldOrReplaces : ℕ → Tree → List ℕ → List ℕ → Type 0
IsOldOrReplaces servers t old file = (file ≡ old) ⊎ MayReplace servers t old file

-- The last part: blocks of these entries, of which the first checksum continues from this sum, and
-- what a crash left after them.
pub record IsLastPart (sum : ℕ) (entries : List Entry) (part : List ℕ) : Type 0 where
  pub batches : List (List ℕ)
  pub are : AreEntries entries
  pub text : joined batches ≡ entries_text entries
  pub texts : AreTexts (stamped_all sum batches)
  pub end : List ℕ
  pub split : part ≡ blocks (stamped_all sum batches) ++ end
  pub counts_for_nothing : IsEnd end
