-- Laws of the definitions: a number and its decimal text represent each other.
use Rattle.std.specs.Prelude.{◌≡◌, ℕ, ◌<◌, Some}
use Rattle.std.specs.Fmt.{decimal}
use Rattle.zscript_text.specs.declared.limits.TheConstants.{NUMBER_BOUND}
use Rattle.zscript_text.specs.LineWords.{Word, number_of}

-- the decimal text of a number below NUMBER_BOUND parses as that number
abbrev pub ReadsDecimal : Type 0
ReadsDecimal = (n : ℕ) → n < NUMBER_BOUND → number_of (decimal n) ≡ Some n

-- a word that parses as a number is its decimal text
abbrev pub IsDecimal : Type 0
IsDecimal = (word : Word) (n : ℕ) → number_of word ≡ Some n → word ≡ decimal n
