-- What the fields of an `Index` represent.
use Rattle.std.specs.Prelude.{ℕ, List}
use Rattle.std.specs.FinMap.{from_entries}
use Rattle.std.specs.HashMap.{spare}
use Rattle.zslots.specs.declared.id.Id.{Id}
use Rattle.znodes.specs.declared.index.Index.TheInside.{Inside}
use Rattle.znodes.specs.index.IndexView.{IndexView, IdsByPath}

-- a path with its Id
abbrev pub Entry : Type 0
Entry = List (List ℕ) × Id

-- the Ids by path
abbrev pub ids_of : List Entry → IdsByPath
ids_of entries = from_entries entries

-- the view of the fields that a contract sees
abbrev pub view_of : Inside → IndexView
view_of s = record { ids = ids_of s.ids.entries; room = spare s.ids }
