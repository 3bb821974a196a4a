-- A file of blocks. A block is a commit byte, its content, and a byte 0. The content has no byte 0,
-- so no length is needed. After the last block is a clear commit byte. A block is first written
-- after that byte and made durable; then the byte is set, by a write of one byte. So a block counts
-- or it doesn't, whatever a crash leaves of it.
use Rattle.std.specs.Prelude.{◌≢◌, ℕ, List, [], ◌∷◌, ◌++◌}

-- no byte is 0
abbrev pub IsText : List ℕ → Type 0
IsText [] = Unit {0}
IsText (b ∷ text) = (b ≢ 0) × IsText text

abbrev pub AreTexts : List (List ℕ) → Type 0
AreTexts [] = Unit {0}
AreTexts (text ∷ texts) = IsText text × AreTexts texts

-- blocks that count: each a set commit byte (1), its content, and its end (0)
abbrev pub blocks : List (List ℕ) → List ℕ
blocks [] = []
blocks (held ∷ more) = 1 ∷ (held ++ 0 ∷ blocks more)

-- a file at rest: blocks, and a clear commit byte (0)
abbrev pub at_rest : List (List ℕ) → List ℕ
at_rest holds = blocks holds ++ 0 ∷ []

-- what follows the last block that counts: nothing, one byte, or a commit byte that isn't set and
-- anything after it
abbrev pub IsEnd : List ℕ → Type 0
IsEnd [] = Unit {0}
IsEnd (commit_byte ∷ []) = Unit {0}
IsEnd (commit_byte ∷ b ∷ more) = commit_byte ≢ 1
