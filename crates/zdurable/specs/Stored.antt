-- A journal, and its tree, where no service has the file open.
use Rattle.std.specs.Prelude.{◌≡◌, ℕ, List, false}
use Rattle.ztree.specs.Tree.{Tree}
use Rattle.zjournal.specs.Journal.{IsAtRest, device_of, size_of}
use Rattle.zjournal.specs.Journal as journal
use Rattle.zjournal.specs.Scan.{joined}
use Rattle.zsnapshots.specs.folder.Texts.{IsTextOf}
use Rattle.zdurable.specs.declared.stored.Stored.{Stored}

-- the device that holds its file, the tree, and the bytes of the journal
abbrev pub file_of : {D : Type 0} → Stored D → D
file_of stored = device_of stored.journal

abbrev pub tree_of : {D : Type 0} → Stored D → Tree
tree_of stored = stored.tree.tree

abbrev pub bytes_of : {D : Type 0} → Stored D → ℕ
bytes_of stored = size_of stored.journal

-- the file holds these batches, all of it durable; their text is that of the tree
pub record IsStored {D : Type 0} (seen : D → List ℕ) (may_leave : D → List ℕ → Type 0) (servers : ℕ) (batches : List (List ℕ)) (stored : Stored D) : Type 0 where
  pub rest : IsAtRest seen may_leave servers batches stored.journal
  pub takes : journal.IsOpen stored.journal
  pub whole : stored.tree.is_broken ≡ false
  pub text : IsTextOf (tree_of stored) (joined batches)

-- it holds some
abbrev pub IsGood : {D : Type 0} → (D → List ℕ) → (D → List ℕ → Type 0) → Stored D → Type 0
IsGood seen may_leave stored = (servers : ℕ) × (batches : List (List ℕ)) × IsStored seen may_leave servers batches stored
