-- Laws of the definitions.
use Rattle.std.specs.Prelude.{◌≡◌, ◌⊎◌, ℕ, List, [], ◌∷◌, ◌++◌}
use Rattle.zjournal.specs.Blocks.{IsText}
use Rattle.zwire.specs.declared.records.record.Record.{Record}
use Rattle.zwire.specs.records.Records.{Fits, AllFit, line_of, text_of}

-- no text begins with two different lines
abbrev pub OneRecordInFront : Type 0
OneRecordInFront =
    (a b : Record) (x y : List ℕ) → Fits a → Fits b → line_of a ++ x ≡ line_of b ++ y → (a ≡ b) × (x ≡ y)

-- no two lists of records share their text
abbrev pub TextsAreDistinct : Type 0
TextsAreDistinct = (a b : List Record) → AllFit a → AllFit b → text_of a ≡ text_of b → a ≡ b

-- one text followed by another is that of the records of both
abbrev pub TextsJoin : Type 0
TextsJoin = (a b : List Record) → text_of (a ++ b) ≡ text_of a ++ text_of b

-- nothing, or the last byte is an LF
abbrev pub EndsLine : List ℕ → Type 0
EndsLine text = (text ≡ []) ⊎ ((front : List ℕ) × (text ≡ front ++ 10 ∷ []))

-- no byte is 0, and each line ends
abbrev pub AreLines : Type 0
AreLines = (records : List Record) → AllFit records → IsText (text_of records) × EndsLine (text_of records)
