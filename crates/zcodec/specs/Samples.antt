-- The forms and bytes of the worked examples.
use Rattle.std.specs.Prelude.{ℕ, List, [], ◌∷◌, Option, Some, None, Ok}
use Rattle.std.specs.Int.{w8, w32}
use Rattle.zcodec.specs.Forms.{Form, number, invalid, tagged, kind}
use Rattle.zcodec.specs.Choices.{sized, at}

-- four bytes of 255, the length -1
abbrev pub null : List ℕ
null = 255 ∷ 255 ∷ 255 ∷ 255 ∷ []

-- a word or a text
pub data Reported : Type 0 where
  Word : ℕ → Reported
  Text : List ℕ → Reported

abbrev pub word_parts : Reported → Option ℕ
word_parts (Word n) = Some n
word_parts (Text bytes) = None

abbrev pub text_parts : Reported → Option (List ℕ)
text_parts (Word n) = None
text_parts (Text bytes) = Some bytes

abbrev pub reported_tag : Reported → ℕ
reported_tag (Word n) = 1
reported_tag (Text bytes) = 5

-- the first byte says which of the two it is
abbrev pub reported : Form Reported
reported =
    tagged (number w8) reported_tag
    (at 1 (kind (number w32) Word word_parts)
    (at 5 (kind (sized 3) Text text_parts) (λ _. invalid)))

-- not a form: it skips a byte
abbrev pub skips : Form (Unit {0})
skips =
    record { spell = λ _. []; read = λ _. Ok (tt, []); Fits = λ _. Unit {0} }

-- not a form: its encoding can't be read back
abbrev pub forgets : Form ℕ
forgets =
    record { spell = λ _. []; read = λ bytes. Ok (0, bytes); Fits = λ _. Unit {0} }
