-- Laws of the definitions. The functions of `src/laws.rt` promise them.
use Rattle.std.specs.Prelude.{◌≡◌, ℕ, List, [], ◌++◌, Some}
use Rattle.ztree.specs.Tree.{Tree, opening_tree}
use Rattle.zprotocol.specs.world.FromTree.{CanStart}
use Rattle.ztree_service.specs.log.Logs.{tree_after}
use Rattle.zwire.specs.declared.records.record.Record.{Record}
use Rattle.zsnapshots.specs.folder.Entries.{Entry, AreEntries, calls_again, entries_of, entries_text, records_of, without_passwords, IsEntriesText}
use Rattle.zsnapshots.specs.folder.States.{after}
use Rattle.zsnapshots.specs.folder.Texts.{IsKeepable, IsTextOf, snapshot_text}
use Rattle.zsnapshots.specs.folder.Compaction.{IsAllWritten, IsChunk, CompactionView, text_left}

-- ---- entries

-- entries are read back from their records
abbrev pub EntriesComeBack : Type 0
EntriesComeBack = (entries : List Entry) → entries_of (records_of entries) ≡ Some entries

-- and records that are entries are the records of these, with or without passwords among them
abbrev pub RecordsComeBack : Type 0
RecordsComeBack =
    (records : List Record) (entries : List Entry) → entries_of records ≡ Some entries → records_of entries ≡ without_passwords records

-- a text is that of one list of entries
abbrev pub EntriesAreDistinct : Type 0
EntriesAreDistinct = (text : List ℕ) (a b : List Entry) → IsEntriesText a text → IsEntriesText b text → a ≡ b

-- the text of entries is theirs
abbrev pub EntriesAreTheirs : Type 0
EntriesAreTheirs = (entries : List Entry) → AreEntries entries → IsEntriesText entries (entries_text entries)

-- ---- trees

-- entries in two parts lead where they lead as one list
abbrev pub EntriesGoOn : Type 0
EntriesGoOn = (t : Tree) (a b : List Entry) → after t (a ++ b) ≡ after (after t a) b

-- the tree is the one that the entries' calls leave
abbrev pub TreesAreTheirCalls : Type 0
TreesAreTheirCalls = (t : Tree) (entries : List Entry) → after t entries ≡ tree_after t (calls_again entries)

-- ---- texts

-- a text represents one tree
abbrev pub TextsAreDistinct : Type 0
TextsAreDistinct = (text : List ℕ) (a b : Tree) → IsTextOf a text → IsTextOf b text → a ≡ b

-- an empty text represents the initial tree, and that of a snapshot its own
abbrev pub NothingIsTheOpening : Type 0
NothingIsTheOpening = IsTextOf opening_tree []

abbrev pub SnapshotsKeepTheirs : Type 0
SnapshotsKeepTheirs = (t : Tree) → IsKeepable t → IsTextOf t (snapshot_text t)

-- what is left of a snapshot's text is the next chunk and then the rest. At first that is all of
-- it, and after the last chunk it is nothing
abbrev pub ChunksJoin : Type 0
ChunksJoin = (old new : CompactionView) (chunk : List ℕ) → IsChunk old new chunk → text_left old ≡ chunk ++ text_left new

abbrev pub ChunksAreAll : Type 0
ChunksAreAll = (t : Tree) → text_left (record { tree = t; written = 0 }) ≡ snapshot_text t

abbrev pub NothingIsLeft : Type 0
NothingIsLeft = (s : CompactionView) → IsAllWritten s → text_left s ≡ []

-- with entries after it, a text represents the tree to which they lead
abbrev pub TextsGoOn : Type 0
TextsGoOn =
    (t : Tree) (text : List ℕ) (entries : List Entry) → IsTextOf t text → AreEntries entries
    → IsTextOf (after t entries) (text ++ entries_text entries)

-- a service can begin with a tree that a text represents
abbrev pub KeptTreesCanStart : Type 0
KeptTreesCanStart = (t : Tree) (text : List ℕ) → IsTextOf t text → CanStart t
