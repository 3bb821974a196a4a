-- Appending one value.
use Rattle.std.specs.Prelude.{◌≡◌, ◌⊎◌, List, [], ◌∷◌, ◌++◌}

-- the value is appended, or there was no memory for it
abbrev pub IsKeptBehind : {X : Type 0} → List X → List X → X → Type 0
IsKeptBehind old new x = (new ≡ old ++ x ∷ []) ⊎ (new ≡ old)
