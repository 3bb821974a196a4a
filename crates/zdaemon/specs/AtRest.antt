-- What is written of a folder that no server has open.
use Rattle.std.specs.Prelude.{◌≡◌, ℕ, List, ◌++◌, codes}
use Rattle.std.specs.Fmt.{decimal}
use Rattle.ztree.specs.Tree.{Tree}
use Rattle.zsnapshots.specs.export.Export.{export_text}
use Rattle.zsnapshots.specs.export.Laws.{HasLines}
use Rattle.zsnapshots.specs.export.Texts.{stat_text}
use Rattle.zsnapshots.specs.declared.export.stat.FolderStat.{FolderStat}
use Rattle.zdurable.specs.Incarnations.{FileKeeps}
use Rattle.zdurable.specs.Looking.{IsStatOf}
use Rattle.zdurable.specs.Compaction.{MayReplace}
use Rattle.zdurable.specs.Stored.{IsStored, bytes_of, file_of, tree_of}
use Rattle.zdurable.specs.declared.stored.Stored.{Stored}
use Rattle.zsnapshots.specs.folder.Texts.{snapshot_text}
use Rattle.zjournal.specs.Journal.{Represents}
use Rattle.zjournal.specs.Scan.{joined}
use Rattle.zdevices.specs.Device.{SinkRun}
use Rattle.zarguments.specs.Reporting.{IsReported}

module _ (servers : ℕ) (file : List ℕ) where
  -- the lines of the tree that the file holds, which make it again
  abbrev pub IsExported : SinkRun → Type 0
  IsExported sink = (t : Tree) × FileKeeps servers t file × HasLines t × sink.took (export_text t)

  -- the numbers of the file
  abbrev pub IsStatReported : SinkRun → Type 0
  IsStatReported sink = (stat : FolderStat) × IsStatOf servers file stat × sink.took (stat_text stat)

-- the lengths of a journal after its compaction and before
abbrev pub compacted_text : ℕ → ℕ → List ℕ
compacted_text after before = decimal after ++ (codes " bytes, before " ++ decimal before)

module _ {D : Type 0} (seen : D → List ℕ) (may_leave : D → List ℕ → Type 0) (servers : ℕ) (file : List ℕ) where
  -- the journal of this file was replaced: by one that holds the same tree, and that tree alone
  pub record IsCompacted (old new : Stored D) : Type 0 where
    pub batches : List (List ℕ)
    pub stands : Represents servers batches file
    pub was : IsStored seen may_leave servers batches old
    pub next : List (List ℕ)
    pub is : IsStored seen may_leave servers next new
    pub alone : joined next ≡ snapshot_text (tree_of old)

  -- and the lengths of both were printed; a fault of the sink alone cuts that
  abbrev pub IsCompactionReported : SinkRun → Type 0
  IsCompactionReported sink =
      (old new : Stored D) × IsCompacted old new × IsReported sink (compacted_text (bytes_of new) (bytes_of old))

  -- the same where the file is all parts of a journal but the last one: it may replace them
  abbrev pub IsBeginningReported : SinkRun → Type 0
  IsBeginningReported sink =
      (old new : Stored D) × IsCompacted old new × MayReplace servers (tree_of old) (seen (file_of old)) (seen (file_of new))
      × IsReported sink (compacted_text (bytes_of new) (bytes_of old))
