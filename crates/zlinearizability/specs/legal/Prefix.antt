-- Prefixes of lists, the entry of a number in a log, and what holds of each two members of a list.
use Rattle.std.specs.Prelude.{◌≡◌, ℕ, ◌+◌, List, [], ◌∷◌, ◌++◌, length}
use Rattle.zcalls.specs.declared.call.Entry.{Entry}
use Rattle.zcalls.specs.Lists.{Among}

-- xs is a prefix of ys
abbrev pub IsPrefix : {A : Type 0} → List A → List A → Type 0
IsPrefix {A} xs ys = (rest : List A) × (ys ≡ xs ++ rest)

-- the log's entry of this number, counted from 1
abbrev pub IsEntry : List Entry → ℕ → Entry → Type 0
IsEntry log n entry = (before after : List Entry) × (log ≡ before ++ entry ∷ after) × (n ≡ length before + 1)

-- the relation holds between each member and each one after it
abbrev pub Pairwise : {A : Type 0} → (A → A → Type 0) → List A → Type 0
Pairwise R [] = Unit {0}
Pairwise {A} R (x ∷ xs) = ((y : A) → Among y xs → R x y) × Pairwise R xs
