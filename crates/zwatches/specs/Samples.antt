-- The paths and watches of the worked examples.
use Rattle.std.specs.Prelude.{List, [], ◌∷◌}
use Rattle.std.specs.FinSet.{from_list}
use Rattle.zwatches.specs.declared.kind.Kind.TheVariants.{Data, Missing, Children, EachData, EachChildren, Recursive}
use Rattle.zwatches.specs.declared.limits.WatchLimits.{WatchLimits}
use Rattle.zwatches.specs.declared.watch.Watch.{Watch}
use Rattle.zwatches.specs.Watches.{Path, Watches, watch}

-- `/a`
abbrev pub at_a : Path
at_a = (97 ∷ []) ∷ []

-- `/a/b`
abbrev pub at_a_b : Path
at_a_b = (97 ∷ []) ∷ (98 ∷ []) ∷ []

-- connection 1 waits for `/a` and its children, 2 for the children of `/a`, 3 for those of the
-- root, and 4 for a node at `/a/b`
abbrev pub some_rows : List Watch
some_rows =
    watch [] Children 3 ∷ watch at_a Data 1 ∷ watch at_a Children 1 ∷ watch at_a Children 2
    ∷ watch at_a_b Missing 4 ∷ []

abbrev pub some_table : Watches
some_table = from_list some_rows

-- `/a/b/c`, `/ab` and `/b`
abbrev pub at_a_b_c : Path
at_a_b_c = (97 ∷ []) ∷ (98 ∷ []) ∷ (99 ∷ []) ∷ []

abbrev pub at_ab : Path
at_ab = (97 ∷ 98 ∷ []) ∷ []

abbrev pub at_b : Path
at_b = (98 ∷ []) ∷ []

-- connection 1 has a persistent watch of `/a` and waits for its data, 2 has a persistent watch and a
-- recursive one of `/a`
abbrev pub lasting_rows : List Watch
lasting_rows =
    watch at_a Data 1 ∷ watch at_a EachData 1 ∷ watch at_a EachData 2
    ∷ watch at_a EachChildren 1 ∷ watch at_a EachChildren 2 ∷ watch at_a Recursive 2 ∷ []

abbrev pub lasting_table : Watches
lasting_table = from_list lasting_rows

-- five watches of all connections, and two of each
abbrev pub five_of_all : WatchLimits
five_of_all = record { most = 5; each = 5 }

abbrev pub two_each : WatchLimits
two_each = record { most = 9; each = 2 }
