-- What was read of a text so far, and that it could be nothing else.
use Rattle.std.specs.Prelude.{◌≡◌, ◌≢◌, ℕ, Bool, true, false, List, [], ◌∷◌, ◌++◌, map}
use Rattle.ztree.specs.Tree.{Tree}
use Rattle.zops.specs.Machine.{MachineView}
use Rattle.zwire.specs.declared.records.record.Record.{Record}
use Rattle.zwire.specs.declared.records.record.Record.TheVariants as record_is
use Rattle.zwire.specs.records.Records.{AllFit, text_of}
use Rattle.ztree_service.specs.Local.{LocalTreeView}
use Rattle.ztree_service.specs.Machines.{IsBare, machine_of, tree_in}
use Rattle.zsnapshots.specs.States.{IsReadable}
use Rattle.zsnapshots.specs.declared.folder.fault.ReadFault.{ReadFault}
use Rattle.zsnapshots.specs.declared.folder.fault.ReadFault.TheVariants.{Memory, NotRecords}
use Rattle.zsnapshots.specs.folder.Entries.{Entry, IsEntriesText, IsOfNoEntries, ReportsPasswords, has_password, without_passwords}
use Rattle.zsnapshots.specs.folder.States.{after}
use Rattle.zsnapshots.specs.folder.Texts.{IsFrontOf, IsTextOf, row_bytes, row_record}

-- ---- records

-- the text begins with records: what they say, whether passwords are among them, and the rest
pub record IsRead (what : List Record) (had : Bool) (text rest : List ℕ) : Type 0 where
  pub records : List Record
  pub fit : AllFit records
  pub split : text ≡ text_of records ++ rest
  pub said : without_passwords records ≡ what
  pub reported : had ≡ has_password records

-- records of which the first isn't a row
abbrev pub BeginNoRow : List Record → Type 0
BeginNoRow (record_is.Row row ∷ records) = ⊥
BeginNoRow records = Unit {0}

-- what a text says doesn't begin with a row
abbrev pub HasNoRow : List ℕ → Type 0
HasNoRow text = (records : List Record) → AllFit records → text ≡ text_of records → BeginNoRow (without_passwords records)

-- ---- the rows of a tree

abbrev pub HasRows : Bool → List (List ℕ) → Type 0
HasRows true rows = rows ≢ []
HasRows false rows = rows ≡ []

-- the text begins with the rows, with or without passwords among them, and no row follows
pub record IsLoaded (rows : List (List ℕ)) (has_rows had : Bool) (text rest : List ℕ) : Type 0 where
  pub read : IsRead (map row_record rows) had text rest
  pub some : HasRows has_rows rows
  pub last : HasNoRow rest

-- the machine did nothing, and its tree can be read from these rows
pub record HasTree (rows : List (List ℕ)) (m : MachineView) : Type 0 where
  pub whole : m.is_broken ≡ false
  pub bare : IsBare m
  pub readable : IsReadable (machine_of (tree_in m))
  pub are : row_bytes (tree_in m) ≡ rows

-- no tree that can be read has these rows
abbrev pub AreOfNoTree : List (List ℕ) → Type 0
AreOfNoTree rows = (t : Tree) → IsReadable (machine_of t) → row_bytes t ≢ rows

-- ---- a text

-- a tree begins the text. Whatever tree the text represents, the rest is the text of entries
pub record Begins (start : Tree) (had : Bool) (text rest : List ℕ) : Type 0 where
  pub front : List ℕ
  pub begins : IsFrontOf start front
  pub split : text ≡ front ++ rest
  pub reported : ReportsPasswords front had
  pub only : (t : Tree) → IsTextOf t text → (entries : List Entry) × IsEntriesText entries rest

-- all entries of the text were applied
pub record AreApplied (text : List ℕ) (old new : LocalTreeView) (had : Bool) : Type 0 where
  pub entries : List Entry
  pub read : IsEntriesText entries text
  pub reported : ReportsPasswords text had
  pub view : new ≡ record { tree = after old.tree entries; is_broken = false }

abbrev pub IsEntriesFault : List ℕ → ReadFault → Type 0
IsEntriesFault text NotRecords = IsOfNoEntries text
IsEntriesFault text Memory = Unit {0}
