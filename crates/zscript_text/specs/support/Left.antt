-- What is left of a line, and of a word.
use Rattle.std.specs.Prelude.{◌≡◌, ℕ, List, [], Option, None, Some, true, drop, length, nat_eq}
use Rattle.std.specs.List.{starts_with}
use Rattle.std.specs.Borrow.{Bor}
use Rattle.zscript_text.specs.declared.cursor.Cursor.TheInside.{Inside}
use Rattle.zscript_text.specs.LineWords.{words_of, Word}

-- the words of what is left of a line; none where nothing is left
abbrev pub words_in : Option (Bor (List ℕ)) → List Word
words_in None = []
words_in (Some line) = words_of line.now

-- the words that a cursor has left
abbrev pub words_left : Inside → List Word
words_left cursor = words_in cursor.left

-- a word begins with these bytes, and this follows them
abbrev pub IsBehind : List ℕ → Word → List ℕ → Type 0
IsBehind front word rest = (starts_with nat_eq word front ≡ true) × (rest ≡ drop (length front) word)
