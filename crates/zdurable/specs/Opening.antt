-- A file that is opened with chosen limits of its tree. The limits are this project's profile.
use Rattle.std.specs.Prelude.{◌≡◌, ◌≢◌, ◌⊎◌, ℕ, List}
use Rattle.ztree.specs.declared.limits.TreeLimits.{TreeLimits}
use Rattle.ztree.specs.Tree.{Tree}
use Rattle.zstore.specs.Restored.{with_limits, FitsWithin}
use Rattle.zjournal.specs.Journal.{Represents, size_of}
use Rattle.zjournal.specs.Scan.{joined}
use Rattle.zsnapshots.specs.folder.Texts.{snapshot_text, IsTextOf}
use Rattle.zdurable.specs.declared.kept.DurableFront.{DurableFront}
use Rattle.zdurable.specs.DurableFront.{IsServing, KeepsTree, measured_from}

-- What the file of a service then has, where it had this tree and these batches. If that tree has
-- the chosen limits, the batches are those of before. Else a compaction wrote the tree within the
-- chosen limits, and it fits within them.
abbrev pub IsWrittenWithin : {D : Type 0} → TreeLimits → Tree → List (List ℕ) → List (List ℕ) → DurableFront D → Type 0
IsWrittenWithin limits found batches next kept =
    ((found.limits ≡ limits) × (next ≡ batches) × (measured_from kept ≡ 0))
    ⊎ ((found.limits ≢ limits) × FitsWithin found limits × (joined next ≡ snapshot_text (with_limits found limits))
    × (measured_from kept ≡ size_of kept.journal))

-- a service was opened: its tree is that of the file, with the chosen limits
pub record IsOpenedWithin {D : Type 0} (seen : D → List ℕ) (may_leave : D → List ℕ → Type 0) (servers : ℕ) (file : List ℕ) (limits : TreeLimits) (kept : DurableFront D) : Type 0 where
  pub found : Tree
  pub batches : List (List ℕ)
  pub stands : Represents servers batches file
  pub text : IsTextOf found (joined batches)
  pub next : List (List ℕ)
  pub written : IsWrittenWithin limits found batches next kept
  pub serving : IsServing seen may_leave servers next (with_limits found limits) kept

-- What a crash leaves of a file with these batches and this tree, while it is opened: the batches;
-- or, where other limits were chosen, also the tree within those.
abbrev pub IsFoundOrWithin : ℕ → List (List ℕ) → Tree → TreeLimits → List ℕ → Type 0
IsFoundOrWithin servers batches found limits file =
    Represents servers batches file ⊎ ((found.limits ≢ limits) × KeepsTree servers (with_limits found limits) file)
