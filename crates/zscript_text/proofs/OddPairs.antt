-- Neighbours of which none is odd, run by run, and what they say of a whole line.
use Rattle.std.proofs.Common.{◌≡◌, ℕ, zero, suc, ◌+◌, ◌-◌, ◌<◌, ◌≢◌, ◌≤◌, eqb, Bool, true, false, true≢false, not, ◌&&◌, List, [], ◌∷◌, length, get_or, refl, sym, ap, subst, ◌∙◌, arith, inl, inr}
use Rattle.std.proofs.lemmas.Bool.{cases_lt, ne_eqb}
use Rattle.std.proofs.lemmas.Bool.Decides.{nat_tests}
use Rattle.zscript_text.specs.LineWords.{is_plain}
use Rattle.zscript_text.specs.support.Spaced.{is_spaced, is_odd, is_odd_behind, IsOddAmong}

-- no byte is odd after a position before this one
abbrev pub NoneOddBefore : List ℕ → ℕ → Type 0
NoneOddBefore line to = (place : ℕ) → place < to → is_odd_behind line place ≡ false

-- a run that begins at or before the end of what was seen
pub run_after : (line : List ℕ) (seen from to : ℕ) (found : Bool) → from ≤ seen → NoneOddBefore line seen → IsOddAmong line from to found → IsOddAmong line 0 to found
run_after line seen from to true meets before odd = (odd.0, omega arith, odd.2, odd.3)
run_after line seen from to false meets before none = λ place _ l. elim (cases_lt place seen) [ inl early ↦ before place early | inr late ↦ none place (omega arith) l ]

-- two runs of one length, which meet or overlap, see all pairs
pub both_runs : (line : List ℕ) (n pairs : ℕ) (found : Bool) → pairs < n + n → n ≤ pairs → IsOddAmong line 0 n false → IsOddAmong line (pairs - n) (pairs - n + n) found → IsOddAmong line 0 pairs found
both_runs line n pairs found few many none last =
    let back : pairs - n + n ≡ pairs = omega arith in
    subst (λ to. IsOddAmong line 0 to found) back (run_after line n (pairs - n) (pairs - n + n) found (omega arith) (λ place l. none place (omega arith) l) last)

-- what is odd in a run is odd in a longer one
pub longer_run : (line : List ℕ) (to pairs : ℕ) → to ≤ pairs → IsOddAmong line 0 to true → IsOddAmong line 0 pairs true
longer_run line to pairs fits odd = (odd.0, odd.1, omega arith, odd.3)

-- a byte that leads a line stays in front of the positions after it
next_behind : (before byte : ℕ) (line : List ℕ) (place : ℕ) → is_odd_behind (before ∷ byte ∷ line) (suc place) ≡ is_odd_behind (byte ∷ line) place
next_behind before byte line place =
    let next : suc place + 1 ≡ suc (place + 1) = omega arith in
    ap (λ k. is_odd (get_or (byte ∷ line) place 0) (get_or (before ∷ byte ∷ line) k 0)) next

found_first : (before byte : ℕ) (line : List ℕ) (to : ℕ) (found : Bool) → is_odd before byte ≡ true → IsOddAmong (before ∷ byte ∷ line) 0 (suc to) found → found ≡ true
found_first before byte line to true odd h = refl
found_first before byte line to false odd none = sym (none 0 (omega arith) (omega arith)) ∙ odd

found_later : (before byte : ℕ) (line : List ℕ) (to : ℕ) (found : Bool) → is_odd before byte ≡ false → IsOddAmong (before ∷ byte ∷ line) 0 (suc to) found → IsOddAmong (byte ∷ line) 0 to found
found_later before byte line to true even (zero, low, high, odd) = absurd (true≢false (sym odd ∙ even))
found_later before byte line to true even (suc place, low, high, odd) = (place, omega arith, omega (arith, high), sym (next_behind before byte line place) ∙ odd)
found_later before byte line to false even none = λ place _ l. sym (next_behind before byte line place) ∙ none (suc place) (omega arith) (omega arith)

odd_stops : (plain apart more : Bool) → not (plain && apart) ≡ true → (plain && apart && more) ≡ false
odd_stops true true more odd = cc
odd_stops true false more odd = refl
odd_stops false apart more odd = refl

even_goes_on : (plain apart more : Bool) → not (plain && apart) ≡ false → (plain && apart && more) ≡ more
even_goes_on true true more even = refl
even_goes_on true false more even = cc
even_goes_on false apart more even = cc

never : (plain apart : Bool) → (plain && apart && false) ≡ false
never true true = refl
never true false = refl
never false apart = refl

-- what follows a byte is well spaced where no byte is odd after its neighbour and the last is no
-- space
spaced_behind : (first : ℕ) (line : List ℕ) (found : Bool) → IsOddAmong (first ∷ line) 0 (length line) found → is_spaced (eqb first 32) line ≡ (not found && not (eqb (get_or (first ∷ line) (length line) 0) 32))
spaced_behind first [] true odd = absurd (omega (arith, odd.2))
spaced_behind first [] false none = refl
spaced_behind first (byte ∷ line) found h = by (is_odd first byte) refl (λ even. spaced_behind byte line found (found_later first byte line (length line) found even h))
  where
    ends : Bool
    ends = eqb (get_or (byte ∷ line) (length line) 0) 32

    by : (odd : Bool) → is_odd first byte ≡ odd → (is_odd first byte ≡ false → is_spaced (eqb byte 32) line ≡ (not found && not ends)) → is_spaced (eqb first 32) (byte ∷ line) ≡ (not found && not ends)
    by true odd rest = odd_stops (is_plain byte) _ _ odd ∙ ap (λ t. not t && not ends) (sym (found_first first byte line (length line) found odd h))
    by false even rest = even_goes_on (is_plain byte) _ _ even ∙ rest even

-- a line that ends in a space is not well spaced
ends_in_space : (after : Bool) (first : ℕ) (line : List ℕ) → get_or (first ∷ line) (length line) 0 ≡ 32 → is_spaced after (first ∷ line) ≡ false
ends_in_space after first [] e = let is : eqb first 32 ≡ true = grind (arith, nat_tests) in rw is (never (is_plain first) (not after))
ends_in_space after first (byte ∷ line) e = rw (ends_in_space (eqb first 32) byte line e) (never (is_plain first) (not (eqb first 32 && after)))

pub space_last : (line : List ℕ) → 0 < length line → get_or line (length line - 1) 0 ≡ 32 → false ≡ is_spaced true line
space_last [] some is = absurd (omega (arith, some))
space_last (first ∷ line) some is =
    let last : suc (length line) - 1 ≡ length line = omega arith in
    sym (ends_in_space true first line (ap (λ k. get_or (first ∷ line) k 0) (sym last) ∙ is))

begins : (first more : Bool) → first ≡ true → more ≡ (first && more)
begins true more is = refl
begins false more is = cc

ends : (found space : Bool) → space ≡ false → not found ≡ (not found && not space)
ends true space is = refl
ends false space is = rw is refl

-- a line whose first and last byte are no space is well spaced where no byte is odd after its
-- neighbour
pub spaced_line : (line : List ℕ) (found : Bool) → 0 < length line → IsOddAmong line 0 (length line - 1) found → is_plain (get_or line 0 0) ≡ true → (get_or line 0 0 ≢ 32) → (get_or line (length line - 1) 0 ≢ 32) → not found ≡ is_spaced true line
spaced_line [] found some h plain visible end = absurd (omega (arith, some))
spaced_line (first ∷ line) found some h plain visible end =
    let last : suc (length line) - 1 ≡ length line = omega arith in
    let no_space : eqb (get_or (first ∷ line) (length line) 0) 32 ≡ false = ne_eqb _ _ (subst (λ k. get_or (first ∷ line) k 0 ≢ 32) last end) in
    let starts : (is_plain first && not (eqb first 32 && true)) ≡ true = rw (plain, ne_eqb first 32 visible) refl in
    ends found _ no_space ∙ sym (spaced_behind first line found (subst (λ k. IsOddAmong (first ∷ line) 0 k found) last h)) ∙ begins _ _ starts
