-- The tree that a file holds, read without changing the file, and its size.
use Rattle.std.specs.Prelude.{◌≡◌, ℕ, Bool, List, length}
use Rattle.ztree.specs.Tree.{Tree}
use Rattle.zjournal.specs.Blocks.{blocks}
use Rattle.zjournal.specs.Journal.{Represents, holdings}
use Rattle.zjournal.specs.Scan.{joined}
use Rattle.zsnapshots.specs.folder.Entries.{ReportsPasswords}
use Rattle.zsnapshots.specs.folder.Texts.{IsTextOf}
use Rattle.zsnapshots.specs.export.Counts.{counts_of}
use Rattle.zsnapshots.specs.declared.export.stat.FolderStat.{FolderStat}

-- the file holds this tree, and its text begins with a snapshot of this many bytes
pub record IsLook (servers : ℕ) (file : List ℕ) (t : Tree) (snapshot : ℕ) : Type 0 where
  pub batches : List (List ℕ)
  pub stands : Represents servers batches file
  pub text : IsTextOf t (joined batches)
  pub begins : snapshot ≡ length text.front

-- the last block that counts ends at this index, which is the same after each sum of a head
abbrev pub EndsThere : ℕ → List ℕ → ℕ → Type 0
EndsThere servers file end =
    (batches : List (List ℕ)) × Represents servers batches file × ((start : ℕ) → end ≡ length (blocks (holdings start servers batches)))

-- the flag says whether passwords of sessions are among the records of the file
abbrev pub ReportsOfPasswords : ℕ → List ℕ → Bool → Type 0
ReportsOfPasswords servers file has =
    (batches : List (List ℕ)) × Represents servers batches file × ReportsPasswords (joined batches) has

-- the numbers are those of the file, and of its tree
abbrev pub IsStatOf : ℕ → List ℕ → FolderStat → Type 0
IsStatOf servers file stat =
    (t : Tree) × (snapshot : ℕ) × IsLook servers file t snapshot
    × (stat ≡ record { tree = counts_of t; journal = length file; snapshot = snapshot })
