-- What a writer of snapshots holds.
use Rattle.std.specs.Prelude.{◌≡◌, ◌≤◌, ℕ, ◌+◌, Bool, false, List, ◌∷◌, ◌++◌, length, map, take, drop}
use Rattle.std.specs.List.{AllByRecursion}
use Rattle.ztree.specs.Tree.{Tree}
use Rattle.zops.specs.RestoredLaws.{IsSettled}
use Rattle.zwire.specs.declared.records.record.Record.{Record}
use Rattle.zwire.specs.records.Records.{AllFit, Fits as FitsLine, line_of}
use Rattle.ztree_service.specs.Machines.{machine_of}
use Rattle.zsnapshots.specs.States.{Fits, rows_of, spelled, WritingView}
use Rattle.zsnapshots.specs.folder.Compaction.{CompactionView}
use Rattle.zsnapshots.specs.folder.Texts.{row_record, row_records}

-- the rows of this tree that were written
pub record IsCompaction (t : Tree) (w : WritingView) : Type 0 where
  pub settled : IsSettled t
  pub is_its : w.state ≡ machine_of t
  pub few : w.written ≤ length (rows_of w.state)
  pub fit : AllByRecursion Fits (take w.written (rows_of w.state))
  pub fit_rows : AllFit (map row_record (take w.written (map spelled (rows_of w.state))))

-- the same, while memory lasts
abbrev pub IsCompactionIf : Bool → Tree → WritingView → Type 0
IsCompactionIf is_broken t w = is_broken ≡ false → IsCompaction t w

-- the line of the next record was written at the end of the bytes, and it fits
pub record IsRecordWritten (old new : CompactionView) (before after : List ℕ) : Type 0 where
  pub r : Record
  pub next : drop old.written (row_records old.tree) ≡ r ∷ drop (old.written + 1) (row_records old.tree)
  pub fits : FitsLine r
  pub bytes : after ≡ before ++ line_of r
  pub view : new ≡ record old { written = old.written + 1 }
