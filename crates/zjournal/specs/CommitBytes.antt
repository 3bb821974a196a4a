-- What a crash leaves in the steps that change a file: ending it with a clear commit byte, writing
-- a block after that byte, and setting it.
use Rattle.std.specs.Prelude.{◌≡◌, ◌⊎◌, ℕ, ◌≤◌, List, [], ◌∷◌, ◌++◌, length, take}

-- a prefix of the file remains, no shorter than this; or it is cut there, and one byte follows
abbrev pub IsClosing : List ℕ → ℕ → List ℕ → Type 0
IsClosing file end c =
    ((n : ℕ) × (end ≤ n) × (c ≡ take n file)) ⊎ ((commit_byte : ℕ) × (c ≡ take end file ++ commit_byte ∷ []))

-- after the prefix is a commit byte of any value, and the block after it
abbrev pub IsOpening : List ℕ → List ℕ → List ℕ → Type 0
IsOpening front block c = (commit_byte : ℕ) × (c ≡ front ++ commit_byte ∷ block)

-- after the prefix is a clear commit byte, and after it at most n bytes of any value
abbrev pub IsStaging : List ℕ → ℕ → List ℕ → Type 0
IsStaging front n c = (rest : List ℕ) × (c ≡ front ++ 0 ∷ rest) × (length rest ≤ n)

-- either of them
abbrev pub IsAdding : List ℕ → List ℕ → List ℕ → Type 0
IsAdding front block c = IsStaging front (length block) c ⊎ IsOpening front block c
