-- Writing text, part by part.
use Rattle.std.specs.Prelude.{◌≡◌, ℕ, List, ◌++◌, String, string_bytes}
use Rattle.std.specs.Fmt.{decimal}

-- the text was appended
abbrev pub Writes : {A : Type 0} → String A → String A → List ℕ → Type 0
Writes old new text = string_bytes new ≡ string_bytes old ++ text

-- two numbers, each with a text before it
abbrev pub counts_text : List ℕ → ℕ → List ℕ → ℕ → List ℕ
counts_text front first middle second = front ++ decimal first ++ middle ++ decimal second
