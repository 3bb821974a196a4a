-- The lines of a text, cut off from the left at each LF, and their logins.
use Rattle.std.proofs.Common.{◌≡◌, ◌<◌, ◌+◌, ◌-◌, ℕ, zero, suc, Bool, true, false, cond, List, [], ◌∷◌, ◌++◌, length, take, drop, slice_index, Result, Ok, Err, ◌==◌, arith, refl, sym, ap, ◌∙◌, inl, inr, add-one, append_assoc}
use Rattle.std.specs.List.{onto_first}
use Rattle.zlogins.specs.declared.fault.LoginsFault.{LoginsFault}
use Rattle.std.proofs.lemmas.List.{append-nil, length-drop, take_all}
use Rattle.zlogins.specs.Reading.{AddsLine, IsFaultOf, before, line_logins, lines_of, logins_on}

-- ---- lines

not_true : (b : Bool) → ¬ (b ≡ true) → b ≡ false
not_true true h = absurd (h refl)
not_true false h = refl

-- no LF is among the first k bytes
abbrev pub NoEndBelow : List ℕ → ℕ → Type 0
NoEndBelow bytes k = (j : ℕ) → j < k → ¬ ((slice_index bytes j == 10) ≡ true)

-- a text without an LF is one line
pub one_line : (bytes : List ℕ) → NoEndBelow bytes (length bytes) → lines_of bytes ≡ bytes ∷ []
one_line [] none = refl
one_line (b ∷ bytes) none =
    ap (λ t. cond t ([] ∷ lines_of bytes) (onto_first b (lines_of bytes))) (not_true (b == 10) (none 0 (omega arith)))
    ∙ ap (onto_first b) (one_line bytes (λ j below. none (suc j) (omega (arith, below))))

-- the first LF ends the first line
pub first_line : (bytes : List ℕ) (k : ℕ) → NoEndBelow bytes k → k < length bytes → (slice_index bytes k == 10) ≡ true
    → lines_of bytes ≡ take k bytes ∷ lines_of (drop (suc k) bytes)
first_line [] k none below here = absurd (omega arith)
first_line (b ∷ bytes) zero none below here = ap (λ t. cond t ([] ∷ lines_of bytes) (onto_first b (lines_of bytes))) here
first_line (b ∷ bytes) (suc k) none below here =
    ap (λ t. cond t ([] ∷ lines_of bytes) (onto_first b (lines_of bytes))) (not_true (b == 10) (none 0 (omega arith)))
    ∙ ap (onto_first b) (first_line bytes k (λ j under. none (suc j) (omega (arith, under))) (omega (arith, below)) here)

-- ---- logins

-- logins before those of a line, and of more lines
pub before-before : (logins more : List (List ℕ)) (rest : Result (List (List ℕ)) LoginsFault)
    → before (Ok logins) (before (Ok more) rest) ≡ before (Ok (logins ++ more)) rest
before-before logins more (Ok last) = ap (λ all. Ok all) (sym (append_assoc logins more last))
before-before logins more (Err fault) = refl

-- no logins before others
pub before-nil : (rest : Result (List (List ℕ)) LoginsFault) → before (Ok []) rest ≡ rest
before-nil (Ok logins) = refl
before-nil (Err fault) = refl

-- the logins of the first line, and those of the rest
pub first_logins : (n : ℕ) (bytes : List ℕ) (k : ℕ) → NoEndBelow bytes k → k < length bytes → (slice_index bytes k == 10) ≡ true
    → logins_on n (lines_of bytes) ≡ before (line_logins n (take k bytes)) (logins_on (n + 1) (lines_of (drop (suc k) bytes)))
first_logins n bytes k none below here = ap (logins_on n) (first_line bytes k none below here)

-- the logins of one line
pub last_logins : (n : ℕ) (bytes : List ℕ) → NoEndBelow bytes (length bytes) → logins_on n (lines_of bytes) ≡ before (line_logins n bytes) (Ok [])
last_logins n bytes none = ap (logins_on n) (one_line bytes none)

-- one line more is read
pub line_added : (n : ℕ) (line : List ℕ) (old new : List (List ℕ)) (rest all : Result (List (List ℕ)) LoginsFault)
    → AddsLine n line old new → before (Ok old) (before (line_logins n line) rest) ≡ all → before (Ok new) rest ≡ all
line_added n line old new rest all added so_far =
    ap (λ logins. before (Ok logins) rest) added.2
    ∙ sym (before-before old added.0 rest)
    ∙ sym (ap (λ logins. before (Ok old) (before logins rest)) added.1)
    ∙ so_far

-- the last line is read
pub last_added : (n : ℕ) (line : List ℕ) (old new : List (List ℕ)) (all : Result (List (List ℕ)) LoginsFault)
    → AddsLine n line old new → before (Ok old) (before (line_logins n line) (Ok [])) ≡ all → all ≡ Ok new
last_added n line old new all added so_far =
    sym (line_added n line old new (Ok []) all added so_far) ∙ ap (λ logins. Ok logins) (append-nil new)

-- a line's fault is that of all
pub line_failed : (line : Result (List (List ℕ)) LoginsFault) (old : List (List ℕ)) (rest all : Result (List (List ℕ)) LoginsFault) (fault : LoginsFault)
    → IsFaultOf line fault → before (Ok old) (before line rest) ≡ all → IsFaultOf all fault
line_failed line old rest all fault (inl memory) so_far = inl memory
line_failed line old rest all fault (inr e) so_far = inr (sym so_far ∙ ap (λ l. before (Ok old) (before l rest)) e)

-- what follows the first LF, as the code cuts it off
pub rest_of-drop : (bytes : List ℕ) (k : ℕ) → take (length bytes - (k + 1)) (drop (k + 1) bytes) ≡ drop (suc k) bytes
rest_of-drop bytes k = take_all _ _ (omega (arith, length-drop (k + 1) bytes)) ∙ ap (λ n. drop n bytes) (add-one k)
