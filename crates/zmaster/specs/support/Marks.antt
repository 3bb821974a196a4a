-- A list of flags represents the rising list of the numbers that are marked.
use Rattle.std.specs.Prelude.{ℕ, ◌+◌, Bool, List, [], ◌∷◌, if◌then◌else◌}

-- the marked numbers, where the list begins at this one
abbrev pub numbers_from : ℕ → List Bool → List ℕ
numbers_from first [] = []
numbers_from first (mark ∷ marks) = if mark then first ∷ numbers_from (first + 1) marks else numbers_from (first + 1) marks
