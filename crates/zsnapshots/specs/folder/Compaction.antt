-- A tree that is written as a snapshot, chunk by chunk.
use Rattle.std.specs.Prelude.{◌≡◌, ◌<◌, ◌≤◌, ℕ, ◌+◌, List, length, take, drop}
use Rattle.ztree.specs.Tree.{Tree}
use Rattle.zwire.specs.records.Records.{text_of}
use Rattle.zsnapshots.specs.folder.Texts.{IsKeepable, row_records}

-- the tree, and how many of its snapshot's records were returned
pub record CompactionView : Type 0 where
  pub tree : Tree
  pub written : ℕ

-- the text of the records that are left
abbrev pub text_left : CompactionView → List ℕ
text_left s = text_of (drop s.written (row_records s.tree))

-- the chunk is the text of the next records, and there is at least one
pub record IsChunk (old new : CompactionView) (chunk : List ℕ) : Type 0 where
  pub count : ℕ
  pub some : 0 < count
  pub within : old.written + count ≤ length (row_records old.tree)
  pub text : chunk ≡ text_of (take count (drop old.written (row_records old.tree)))
  pub view : new ≡ record old { written = old.written + count }

-- all records were returned, and the tree can be read from them
pub record IsAllWritten (s : CompactionView) : Type 0 where
  pub all : length (row_records s.tree) ≤ s.written
  pub keepable : IsKeepable s.tree
