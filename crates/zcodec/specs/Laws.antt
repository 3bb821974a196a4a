-- What a form must satisfy, and the laws of every composed form.
use Rattle.std.specs.Prelude.{◌≡◌, ℕ, ◌<◌, List, ◌++◌, Ok, slice_index}
use Rattle.zcodec.specs.Forms.{Form}
use Rattle.zcodec.specs.Readers.{whole}
use Rattle.zcodec.specs.Shapes.{Shape, Value, form_of, HasRoom}

-- each number is a byte
abbrev pub IsBytes : List ℕ → Type 0
IsBytes bytes = (i : ℕ) → slice_index bytes i < 256

-- what was read has those bytes as its encoding, and fits; what fits is read back from its encoding
pub record IsForm {A : Type 0} (c : Form A) : Type 0 where
  pub takes : (bytes : List ℕ) (x : A × List ℕ) → IsBytes bytes → c.read bytes ≡ Ok x →
      (bytes ≡ c.spell x.0 ++ x.1) × c.Fits x.0
  pub again : (x : A) (rest : List ℕ) → c.Fits x → c.read (c.spell x ++ rest) ≡ Ok (x, rest)

-- every composed form is one
abbrev pub AreForms : Type 0
AreForms = (s : Shape) → HasRoom s → IsForm (form_of s)

-- two values that fit have different encodings
abbrev pub SpellsApart : Type 0
SpellsApart =
    (s : Shape) (x y : Value s) → HasRoom s → (form_of s).Fits x → (form_of s).Fits y →
    (form_of s).spell x ≡ (form_of s).spell y → x ≡ y

-- the value read from all bytes has them as its encoding, and fits
abbrev pub WholeIsSpelled : Type 0
WholeIsSpelled =
    (s : Shape) (bytes : List ℕ) (x : Value s) → HasRoom s → IsBytes bytes →
    whole (form_of s) bytes ≡ Ok x → (bytes ≡ (form_of s).spell x) × (form_of s).Fits x

-- a value that fits is read from all bytes of its encoding
abbrev pub SpelledIsWhole : Type 0
SpelledIsWhole =
    (s : Shape) (x : Value s) → HasRoom s → (form_of s).Fits x →
    whole (form_of s) ((form_of s).spell x) ≡ Ok x
