-- The list that owners of a path share.
use Rattle.std.specs.Prelude.{ℕ, ◌≤◌, List, [], length, take, Option, Some, None}
use Rattle.std.specs.declared.sync.Arc.{Arc}
use Rattle.std.specs.Arc.{arc_value}
use Rattle.zpath.specs.declared.list.NameList.{NameList}
use Rattle.zpath.specs.Grammar.{IsPath}
use Rattle.zpath.specs.support.Lists.{items_of}

-- the items of the list, where there is one
abbrev pub listed : {C : Type 0} → Option (Arc NameList C) → List (List ℕ)
listed None = []
listed (Some list) = items_of (arc_value list)

-- the list begins with that many names, and they are a path
abbrev pub ShowsPath : ℕ → List (List ℕ) → Type 0
ShowsPath depth list = (depth ≤ length list) × IsPath (take depth list)
