-- What words there are.
use Rattle.std.specs.Prelude.{◌≡◌, List, ◌∷◌}
use Rattle.zscript_text.specs.LineWords.{Word}

-- there is a word
abbrev pub HasWord : List Word → Type 0
HasWord all = (word : Word) × (words : List Word) × (all ≡ word ∷ words)
