-- Ids as the keys of a map, in an order without further meaning; and lists of Ids.
use Rattle.std.specs.Prelude.{◌≡◌, ◌≢◌, ◌⊎◌, ℕ, List, [], ◌∷◌, Option, Some, None, refl}
use Rattle.std.specs.Option.{option_map_or}
use Rattle.std.specs.Ordering.{nat_cmp}
use Rattle.std.specs.declared.cmp.Ordering.{Ordering}
use Rattle.std.specs.Cmp.Lexicographic.{slice_cmp}
use Rattle.std.specs.Coded.{Coded, code_by, coded×, coded_ℕ}
use Rattle.zslots.specs.declared.id.Id.{Id}

-- an Id as a list of numbers
abbrev pub id_key : Id → List ℕ
id_key id = id.generation.high ∷ id.generation.low ∷ id.index ∷ []

-- the order of Ids: by generation, then by index
abbrev pub id_cmp : Id → Id → Ordering
id_cmp a b = slice_cmp nat_cmp (id_key a) (id_key b)

-- how an Id is encoded
abbrev pub coded_id : Coded Id
coded_id =
    code_by (ℕ × (ℕ × ℕ)) (coded× coded_ℕ (coded× coded_ℕ coded_ℕ))
    (λ id. (id.index, (id.generation.high, id.generation.low)))
    (λ p. record { index = p.0; generation = record { high = p.1.0; low = p.1.1 } }) (λ _. refl)

-- a sequence of Ids
abbrev pub Ids : Type 0
Ids = List Id

-- the Id is in the list
abbrev pub IsIn : Id → Ids → Type 0
IsIn id [] = ⊥
IsIn id (other ∷ ids) = (id ≡ other) ⊎ IsIn id ids

-- the Id is not in the list
abbrev pub NotIn : Id → Ids → Type 0
NotIn id [] = Unit {0}
NotIn id (other ∷ ids) = (id ≢ other) × NotIn id ids

-- no Id occurs twice
abbrev pub NoTwo : Ids → Type 0
NoTwo [] = Unit {0}
NoTwo (id ∷ ids) = NotIn id ids × NoTwo ids

-- the first Id, if any
abbrev pub first_of : Ids → Option Id
first_of [] = None
first_of (id ∷ ids) = Some id

-- the last Id; for no Ids, the one before them
abbrev pub last_or : Option Id → Ids → Option Id
last_or before [] = before
last_or before (id ∷ ids) = last_or (Some id) ids

-- the new first Id of a list: unchanged if there is an item before, else the other one
abbrev pub first_if : Option Id → Option Id → Option Id → Option Id
first_if before first other = option_map_or (λ _. first) before other
