-- A tree as text: a snapshot, and entries after it. A snapshot is lines of records, one for each
-- row of the tree. Passwords among the records of a text have no effect. This is the project's
-- profile.
use Rattle.std.specs.Prelude.{◌≡◌, ◌⊎◌, ℕ, List, [], ◌++◌, map}
use Rattle.ztree.specs.Tree.{Tree, opening_tree}
use Rattle.zwire.specs.declared.records.record.Record.{Record}
use Rattle.zwire.specs.declared.records.record.Record.TheVariants as record_is
use Rattle.zwire.specs.records.Records.{AllFit, text_of}
use Rattle.ztree_service.specs.Machines.{machine_of}
use Rattle.zsnapshots.specs.States.{spelled, rows_of, IsReadable}
use Rattle.zsnapshots.specs.folder.Entries.{Entry, IsEntriesText, Says}
use Rattle.zsnapshots.specs.folder.States.{after}

-- ---- snapshots

-- the bytes of each row of a machine that has this tree and did nothing
abbrev pub row_bytes : Tree → List (List ℕ)
row_bytes t = map spelled (rows_of (machine_of t))

abbrev pub row_record : List ℕ → Record
row_record bytes = record_is.Row bytes

abbrev pub row_records : Tree → List Record
row_records t = map row_record (row_bytes t)

abbrev pub snapshot_text : Tree → List ℕ
snapshot_text t = text_of (row_records t)

-- the tree can be read from its snapshot, whose records have the limits of their types
pub record IsKeepable (t : Tree) : Type 0 where
  pub readable : IsReadable (machine_of t)
  pub fit : AllFit (row_records t)

-- ---- texts

-- the text with which a tree begins: none for the initial one, else that of its snapshot
abbrev pub IsFrontOf : Tree → List ℕ → Type 0
IsFrontOf t front = ((t ≡ opening_tree) × (front ≡ [])) ⊎ (IsKeepable t × Says (row_records t) front)

-- the text represents the tree: it is the text of some tree with which it begins, followed by
-- entries that lead to this tree
pub record IsTextOf (t : Tree) (text : List ℕ) : Type 0 where
  pub start : Tree
  pub front : List ℕ
  pub begins : IsFrontOf start front
  pub entries : List Entry
  pub behind : List ℕ
  pub are : IsEntriesText entries behind
  pub split : text ≡ front ++ behind
  pub leaves : t ≡ after start entries

-- the text represents no tree
abbrev pub IsNoText : List ℕ → Type 0
IsNoText text = (t : Tree) → IsTextOf t text → ⊥
