-- A line that is well spaced, byte by byte, has plain bytes and no empty word.
use Rattle.std.proofs.Common.{◌≡◌, ℕ, Bool, true, false, not, cond, eqb, ◌&&◌, ◌||◌, List, [], ◌∷◌, refl, ◌∙◌, arith}
use Rattle.std.specs.List.{list_any, onto_first}
use Rattle.std.proofs.lemmas.Bool.Decides.{nat_tests}
use Rattle.zpath.specs.Grammar.{is_empty}
use Rattle.zscript_text.specs.LineWords.{Word, words_of, is_plain, is_long, is_malformed}
use Rattle.zscript_text.specs.support.Spaced.{is_spaced}

-- whether a word after the first is empty
abbrev later_empty : List Word → Bool
later_empty [] = false
later_empty (word ∷ words) = list_any is_empty words

abbrev pub has_odd : List ℕ → Bool
has_odd line = list_any (λ byte. not (is_plain byte)) line

filled : (b : ℕ) (word : Word) → is_empty (b ∷ word) ≡ false
filled b word = grind (arith, nat_tests)

-- a byte put onto the first word leaves it no empty word
onto : (b : ℕ) (words : List Word) → (list_any is_empty (onto_first b words) ≡ later_empty words) × (later_empty (onto_first b words) ≡ later_empty words)
onto b [] = (rw (filled b []) refl, refl)
onto b (word ∷ words) = (rw (filled b word) refl, refl)

both : (p e f : Bool) → (p && true && not (e || f)) ≡ not ((not p || e) || f)
both true e f = refl
both false e f = refl

spoiled : (p s e : Bool) → (p && false && s) ≡ not (e || true)
spoiled true s true = refl
spoiled true s false = refl
spoiled false s true = refl
spoiled false s false = refl

pub is_spaced-words : (line : List ℕ) → (is_spaced true line ≡ not (has_odd line || list_any is_empty (words_of line))) × (is_spaced false line ≡ not (has_odd line || later_empty (words_of line)))
is_spaced-words [] = (refl, refl)
is_spaced-words (b ∷ line) = by (eqb b 32) (is_spaced-words line)
  where
    by : (t : Bool) → (is_spaced true line ≡ not (has_odd line || list_any is_empty (words_of line))) × (is_spaced false line ≡ not (has_odd line || later_empty (words_of line))) → ((is_plain b && not (t && true) && is_spaced t line) ≡ not (has_odd (b ∷ line) || list_any is_empty (cond t ([] ∷ words_of line) (onto_first b (words_of line))))) × ((is_plain b && not (t && false) && is_spaced t line) ≡ not (has_odd (b ∷ line) || later_empty (cond t ([] ∷ words_of line) (onto_first b (words_of line)))))
    by true h = (spoiled (is_plain b) (is_spaced true line) (has_odd (b ∷ line)), rw h.0 (both (is_plain b) (has_odd line) (list_any is_empty (words_of line))))
    by false h = (
      rw (h.1, (onto b (words_of line)).0) (both (is_plain b) (has_odd line) (later_empty (words_of line))),
      rw (h.1, (onto b (words_of line)).1) (both (is_plain b) (has_odd line) (later_empty (words_of line))),
    )

malformed : (odd empty spaced : Bool) → spaced ≡ not (odd || empty) → (odd || empty) ≡ not spaced
malformed true e s h = rw h refl
malformed false true s h = rw h refl
malformed false false s h = rw h refl

-- a line that isn't too long is malformed where it is not well spaced
pub is_malformed-spaced : (line : List ℕ) → is_long line ≡ false → is_malformed line ≡ not (is_spaced true line)
is_malformed-spaced line short = rw short (malformed (has_odd line) (list_any is_empty (words_of line)) (is_spaced true line) (is_spaced-words line).0)

has_no_odd : (odd empty : Bool) → true ≡ not (odd || empty) → odd ≡ false
has_no_odd true e h = cc
has_no_odd false e h = refl

-- and a well spaced one has plain bytes alone
pub spaced_is_plain : (line : List ℕ) → true ≡ is_spaced true line → has_odd line ≡ false
spaced_is_plain line h = has_no_odd (has_odd line) (list_any is_empty (words_of line)) (h ∙ (is_spaced-words line).0)
