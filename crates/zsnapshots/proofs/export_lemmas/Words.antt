-- Words of visible bytes, with a space between each two: what such a line is cut into.
use Rattle.std.proofs.Common.{◌≡◌, ℕ, ◌<◌, ◌≤◌, ◌+◌, Bool, true, false, eqb, not, ◌||◌, List, [], ◌∷◌, ◌++◌, length, length-append, refl, arith}
use Rattle.std.specs.List.{AllByRecursion, list_any}
use Rattle.std.proofs.lemmas.Bool.Decides.{nat_tests}
use Rattle.zpath.specs.Grammar.{is_empty}
use Rattle.zpath.proofs.NameTests.{not_above}
use Rattle.zscript_text.specs.declared.limits.TheConstants.{MAX_LINE}
use Rattle.zscript_text.specs.LineWords.{Word, words_of, is_plain, is_long, is_malformed}
use Rattle.zscript_text.proofs.Numerals.{filled}
use Rattle.zscript_text.proofs.Spacing.{has_odd}

-- visible bytes
abbrev pub IsMark : ℕ → Type 0
IsMark b = (33 ≤ b) × (b ≤ 126)

abbrev pub AreMarks : List ℕ → Type 0
AreMarks = AllByRecursion IsMark

-- some of them
pub record IsWord (word : Word) : Type 0 where
  pub some : 0 < length word
  pub marks : AreMarks word

abbrev pub AreWords : List Word → Type 0
AreWords = AllByRecursion IsWord

-- words with a space between each two
abbrev pub spaced : Word → List Word → List ℕ
spaced word [] = word
spaced word (next ∷ words) = word ++ 32 ∷ spaced next words

pub marks-append : (a b : List ℕ) → AreMarks a → AreMarks b → AreMarks (a ++ b)
marks-append [] b first second = second
marks-append (x ∷ a) b first second = (first.0, marks-append a b first.1 second)

-- ---- cuts

no_space : (b : ℕ) → IsMark b → eqb b 32 ≡ false
no_space b is = grind (arith, nat_tests, is.0)

cut_first : (word rest : List ℕ) → AreMarks word → words_of (word ++ 32 ∷ rest) ≡ word ∷ words_of rest
cut_first [] rest are = refl
cut_first (b ∷ word) rest are = rw (no_space b are.0, cut_first word rest are.1) refl

cut_last : (word : List ℕ) → AreMarks word → words_of word ≡ word ∷ []
cut_last [] are = refl
cut_last (b ∷ word) are = rw (no_space b are.0, cut_last word are.1) refl

pub words_of-spaced : (word : Word) (words : List Word) → AreWords (word ∷ words) → words_of (spaced word words) ≡ word ∷ words
words_of-spaced word [] are = cut_last word are.0.marks
words_of-spaced word (next ∷ words) are = rw (cut_first word (spaced next words) are.0.marks, words_of-spaced next words are.1) refl

-- ---- a line of words is not malformed

mark_is_plain : (b : ℕ) → IsMark b → not (is_plain b) ≡ false
mark_is_plain b is = grind (arith, nat_tests, is.0, is.1)

plain_marks : (word : List ℕ) → AreMarks word → has_odd word ≡ false
plain_marks [] are = refl
plain_marks (b ∷ word) are = rw (mark_is_plain b are.0) (plain_marks word are.1)

plain_append : (a b : List ℕ) → AreMarks a → has_odd b ≡ false → has_odd (a ++ b) ≡ false
plain_append [] b first second = second
plain_append (x ∷ a) b first second = rw (mark_is_plain x first.0) (plain_append a b first.1 second)

plain_spaced : (word : Word) (words : List Word) → AreWords (word ∷ words) → has_odd (spaced word words) ≡ false
plain_spaced word [] are = plain_marks word are.0.marks
plain_spaced word (next ∷ words) are = plain_append word (32 ∷ spaced next words) are.0.marks (plain_spaced next words are.1)

none_empty : (words : List Word) → AreWords words → list_any is_empty words ≡ false
none_empty [] are = refl
none_empty (word ∷ words) are = rw (filled word are.0.some) (none_empty words are.1)

short_line : (line : List ℕ) → length line ≤ MAX_LINE → is_long line ≡ false
short_line line short = not_above MAX_LINE (length line) short

pub well_formed : (word : Word) (words : List Word) → AreWords (word ∷ words) → length (spaced word words) ≤ MAX_LINE
    → is_malformed (spaced word words) ≡ false
well_formed word words are short =
    rw (short_line (spaced word words) short, plain_spaced word words are, words_of-spaced word words are) (none_empty (word ∷ words) are)

-- how long it is
abbrev pub line_length : List Word → ℕ
line_length [] = 0
line_length (word ∷ words) = (1 + length word) + line_length words

pub length-spaced : (word : Word) (words : List Word) → length (spaced word words) ≡ length word + line_length words
length-spaced word [] = omega arith
length-spaced word (next ∷ words) =
    let more = length-spaced next words in
    let all : length (word ++ 32 ∷ spaced next words) ≡ length word + ((1 + length next) + line_length words) = omega
    (arith, length-append word (32 ∷ spaced next words), more) in
    all
