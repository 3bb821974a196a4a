-- The lines of a script, as a player meets them: carried on from byte to byte.
use Rattle.std.proofs.Common.{◌≡◌, ◌<◌, ◌≤◌, ℕ, true, false, cond, List, [], ◌∷◌, ◌++◌, length, length-append, refl}
use Rattle.std.proofs.Common.{sym, ap, ◌∙◌, append_assoc, ◌==◌, arith}
use Rattle.std.proofs.lemmas.List.{append-nil}
use Rattle.std.specs.List.{onto_first}
use Rattle.zscript.specs.Script.{lines_of, whole_lines_of, onto_line}
use Rattle.zscript.specs.support.Lines.{whole_lines_after, line_left, last_line, lines_after}

-- lines, where a line has begun before the first of them
abbrev pub carried : List ℕ → List (List ℕ) → List (List ℕ)
carried line [] = last_line line
carried line (next ∷ lines) = (line ++ next) ∷ lines

-- the same of lines that end
abbrev pub carried_whole : List ℕ → List (List ℕ) → List (List ℕ)
carried_whole line [] = []
carried_whole line (next ∷ lines) = (line ++ next) ∷ lines

carried-nil : (lines : List (List ℕ)) → carried [] lines ≡ lines
carried-nil [] = refl
carried-nil (line ∷ lines) = refl

carried_whole-nil : (lines : List (List ℕ)) → carried_whole [] lines ≡ lines
carried_whole-nil [] = refl
carried_whole-nil (line ∷ lines) = refl

last_line-push : (line : List ℕ) (b : ℕ) → last_line (line ++ b ∷ []) ≡ (line ++ b ∷ []) ∷ []
last_line-push [] b = refl
last_line-push (x ∷ line) b = refl

carried-onto : (line : List ℕ) (b : ℕ) (lines : List (List ℕ)) → carried (line ++ b ∷ []) lines ≡ carried line (onto_first b lines)
carried-onto line b [] = last_line-push line b
carried-onto line b (next ∷ lines) = ap (λ t. t ∷ lines) (append_assoc line (b ∷ []) next)

carried_whole-onto : (line : List ℕ) (b : ℕ) (lines : List (List ℕ)) → carried_whole (line ++ b ∷ []) lines ≡ carried_whole line (onto_line b lines)
carried_whole-onto line b [] = refl
carried_whole-onto line b (next ∷ lines) = ap (λ t. t ∷ lines) (append_assoc line (b ∷ []) next)

lines_after-carried : (bytes line : List ℕ) → lines_after line bytes ≡ carried line (lines_of bytes)
lines_after-carried [] line = refl
lines_after-carried (b ∷ bytes) line =
    elim (b == 10) as (λ t. cond t (line ∷ whole_lines_after [] bytes) (whole_lines_after (line ++ b ∷ []) bytes)
    ++ last_line (cond t (line_left [] bytes) (line_left (line ++ b ∷ []) bytes))
    ≡ carried line (cond t ([] ∷ lines_of bytes) (onto_first b (lines_of bytes)))) [
      | true ↦ (λ i. sym (append-nil line) i ∷ (lines_after-carried bytes [] ∙ carried-nil (lines_of bytes)) i)
      | false ↦ lines_after-carried bytes (line ++ b ∷ []) ∙ carried-onto line b (lines_of bytes)
    ]

whole_lines_after-carried : (bytes line : List ℕ) → whole_lines_after line bytes ≡ carried_whole line (whole_lines_of bytes)
whole_lines_after-carried [] line = refl
whole_lines_after-carried (b ∷ bytes) line =
    elim (b == 10) as (λ t. cond t (line ∷ whole_lines_after [] bytes) (whole_lines_after (line ++ b ∷ []) bytes)
    ≡ carried_whole line (cond t ([] ∷ whole_lines_of bytes) (onto_line b (whole_lines_of bytes)))) [
      | true ↦ (λ i. sym (append-nil line) i ∷ (whole_lines_after-carried bytes [] ∙ carried_whole-nil (whole_lines_of bytes)) i)
      | false ↦ whole_lines_after-carried bytes (line ++ b ∷ []) ∙ carried_whole-onto line b (whole_lines_of bytes)
    ]

-- the definition and what the player does say the same
pub lines_of-carried : (bytes : List ℕ) → lines_of bytes ≡ lines_after [] bytes
lines_of-carried bytes = sym (lines_after-carried bytes [] ∙ carried-nil (lines_of bytes))

pub whole_lines_of-carried : (bytes : List ℕ) → whole_lines_of bytes ≡ whole_lines_after [] bytes
whole_lines_of-carried bytes = sym (whole_lines_after-carried bytes [] ∙ carried_whole-nil (whole_lines_of bytes))

pub last_line-one : (line : List ℕ) → length (last_line line) ≤ 1
last_line-one [] = omega arith
last_line-one (b ∷ line) = omega arith

-- where one line more at the end is not played, the lines before it hold all that were
pub record Whole (xs played : List (List ℕ)) : Type 0 where
  pub rest : List (List ℕ)
  pub split : xs ≡ played ++ rest

pub whole_played : (xs ys played rest : List (List ℕ)) → xs ++ ys ≡ played ++ rest → length ys ≤ 1 → 0 < length rest → Whole xs played
whole_played xs ys [] rest e one some = record { rest = xs; split = refl }
whole_played [] ys (p ∷ played) rest e one some = absurd (omega (arith, ap length e, length-append played rest))
whole_played (x ∷ xs) ys (p ∷ played) rest e one some =
    let head : x ≡ p = cc e in
    let tail : xs ++ ys ≡ played ++ rest = cc e in
    let later = whole_played xs ys played rest tail one some in
    record { rest = later.rest; split = λ i. head i ∷ later.split i }
