-- How bytes are cut into lines, chunk by chunk.
use Rattle.std.proofs.Common.{◌≡◌, ℕ, true, false, cond, List, [], ◌∷◌, ◌++◌, refl, sym, ap, ◌∙◌, append_assoc, ◌==◌}
use Rattle.std.proofs.lemmas.List.{append-nil}
use Rattle.zscript.specs.Line.{ScriptState, answer, after, answers}
use Rattle.zscript.specs.support.Lines.{whole_lines_after, line_left, after_all, IsPart}

pub whole_lines_after-append : (a line b : List ℕ) → whole_lines_after line (a ++ b) ≡ whole_lines_after line a
    ++ whole_lines_after (line_left line a) b
whole_lines_after-append [] line b = refl
whole_lines_after-append (x ∷ a) line b =
    elim (x == 10) as (λ t. cond t (line ∷ whole_lines_after [] (a ++ b)) (whole_lines_after (line ++ x ∷ []) (a ++ b))
    ≡ cond t (line ∷ whole_lines_after [] a) (whole_lines_after (line ++ x ∷ []) a) ++ whole_lines_after
    (cond t (line_left [] a) (line_left (line ++ x ∷ []) a)) b) [
      | true ↦ ap (λ t. line ∷ t) (whole_lines_after-append a [] b)
      | false ↦ whole_lines_after-append a (line ++ x ∷ []) b
    ]

pub line_left-append : (a line b : List ℕ) → line_left line (a ++ b) ≡ line_left (line_left line a) b
line_left-append [] line b = refl
line_left-append (x ∷ a) line b =
    elim (x == 10) as (λ t. cond t (line_left [] (a ++ b)) (line_left (line ++ x ∷ []) (a ++ b))
    ≡ line_left (cond t (line_left [] a) (line_left (line ++ x ∷ []) a)) b) [
      | true ↦ line_left-append a [] b
      | false ↦ line_left-append a (line ++ x ∷ []) b
    ]

pub whole_lines_after-part : (a line : List ℕ) → IsPart a → whole_lines_after line a ≡ []
whole_lines_after-part [] line h = refl
whole_lines_after-part (x ∷ a) line h = rw h.0 (whole_lines_after-part a (line ++ x ∷ []) h.1)

pub line_left-part : (a line : List ℕ) → IsPart a → line_left line a ≡ line ++ a
line_left-part [] line h = sym (append-nil line)
line_left-part (x ∷ a) line h = rw h.0 (line_left-part a (line ++ x ∷ []) h.1 ∙ append_assoc line (x ∷ []) a)

pub whole_lines_after-line : (a line more : List ℕ) → IsPart a → whole_lines_after line (a ++ 10 ∷ more) ≡ (line ++ a) ∷ whole_lines_after [] more
whole_lines_after-line a line more h =
    whole_lines_after-append a line (10 ∷ more)
    ∙ (λ i. whole_lines_after-part a line h i ++ whole_lines_after (line_left-part a line h i) (10 ∷ more))

pub line_left-line : (a line more : List ℕ) → IsPart a → line_left line (a ++ 10 ∷ more) ≡ line_left [] more
line_left-line a line more h = line_left-append a line (10 ∷ more)

pub after_all-append : (xs : List (List ℕ)) (state : ScriptState) (ys : List (List ℕ)) → after_all state (xs ++ ys)
    ≡ after_all (after_all state xs) ys
after_all-append [] state ys = refl
after_all-append (x ∷ xs) state ys = after_all-append xs (after state x) ys

pub answers-append : (xs : List (List ℕ)) (state : ScriptState) (ys : List (List ℕ)) → answers state (xs ++ ys)
    ≡ answers state xs ++ answers (after_all state xs) ys
answers-append [] state ys = refl
answers-append (x ∷ xs) state ys = ap (λ t. answer state x ++ t) (answers-append xs (after state x) ys) ∙ sym (append_assoc (answer state x) _ _)
