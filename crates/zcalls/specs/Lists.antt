-- Membership and order in a list.
use Rattle.std.specs.Prelude.{◌≡◌, ◌⊎◌, List, [], ◌∷◌}

-- x is in the list
abbrev pub Among : {A : Type 0} → A → List A → Type 0
Among x [] = ⊥
Among x (y ∷ ys) = (y ≡ x) ⊎ Among x ys

-- x is in the list, with y somewhere after it
abbrev pub ComesBefore : {A : Type 0} → A → A → List A → Type 0
ComesBefore x y [] = ⊥
ComesBefore x y (z ∷ zs) = ((z ≡ x) × Among y zs) ⊎ ComesBefore x y zs

-- no two positions of the list hold related items
abbrev pub NoTwo : {A : Type 0} → (A → A → Type 0) → List A → Type 0
NoTwo IsAlike [] = Unit {0}
NoTwo {A} IsAlike (x ∷ xs) = ((y : A) → Among y xs → IsAlike x y → ⊥) × NoTwo IsAlike xs
