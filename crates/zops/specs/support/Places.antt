-- What the positions of cached replies represent: the position of a client's number has what is
-- cached for it.
use Rattle.std.specs.Prelude.{ℕ, ◌+◌, List, [], ◌∷◌, map, Option, Some, None}
use Rattle.std.specs.Ordering.{nat_cmp}
use Rattle.std.specs.FinMap.{FinMap, from_entries}
use Rattle.zcalls.specs.Cached.{Cached}

-- what is cached at these positions, by the clients' numbers, where the first position is that of
-- this number
abbrev pub entries_from : ℕ → List (Option Cached) → List (ℕ × Cached)
entries_from number [] = []
entries_from number (None ∷ places) = entries_from (number + 1) places
entries_from number (Some kept ∷ places) = (number, kept) ∷ entries_from (number + 1) places

-- the clients' numbers of these
abbrev pub clients_from : ℕ → List (Option Cached) → List ℕ
clients_from number places = map (λ e. e.0) (entries_from number places)

-- the cached replies by the clients' numbers
abbrev pub replies_in : List (Option Cached) → FinMap nat_cmp Cached
replies_in places = from_entries (entries_from 0 places)
