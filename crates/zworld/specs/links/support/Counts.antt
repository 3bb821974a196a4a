-- How many items of a list pass a test.
use Rattle.std.specs.Prelude.{ℕ, ◌+◌, Bool, true, false, List, [], ◌∷◌}

-- 1 for what passes a test
abbrev pub share : Bool → ℕ
share false = 0
share true = 1

-- how many items of a list pass a test
abbrev pub passing : {X : Type 0} → (X → Bool) → List X → ℕ
passing test [] = 0
passing test (x ∷ xs) = share (test x) + passing test xs
