-- The names of a list, however it stores them.
use Rattle.std.specs.Prelude.{ℕ, List}
use Rattle.zpath.specs.declared.list.NameList.{NameList}
use Rattle.zpath.specs.declared.list.NameList.TheVariants.{One, Two, Many}

abbrev pub items_of : NameList → List (List ℕ)
items_of (One names) = names
items_of (Two names) = names
items_of (Many names) = names.items
