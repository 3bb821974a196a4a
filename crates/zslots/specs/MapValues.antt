-- Mapping a function over the values of a map.
use Rattle.std.specs.Prelude.{Option}
use Rattle.std.specs.Option.{option_map}
use Rattle.std.specs.List.{filter_map}
use Rattle.std.specs.FinMap.{FinMap, entries, from_entries}
use Rattle.std.specs.declared.cmp.Ordering.{Ordering}

-- each key with the function's result for its value; keys without a result are left out
abbrev pub map_values :
    {K X Y : Type 0} {R : K → K → Ordering} → (X → Option Y) → FinMap R X → FinMap R Y
map_values f m = from_entries (filter_map (λ e. option_map (λ y. (e.0, y)) (f e.1)) (entries m))
