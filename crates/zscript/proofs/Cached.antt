-- The stored prefix of a line represents the line.
use Rattle.std.proofs.Common.{◌+◌, ◌-◌, Bool, true, false, nat_le, ◌≡◌, ◌<◌, ◌≤◌, ◌⊎◌, inl, inr, ℕ, zero, suc, List, []}
use Rattle.std.proofs.Common.{◌∷◌, ◌++◌, length, take, map, refl, sym, ap, ◌∙◌, arith, min}
use Rattle.std.proofs.lemmas.List.{take_all, take_min, length-take, append-nil}
use Rattle.std.proofs.lemmas.Bool.Decides.{nat_tests}
use Rattle.std.proofs.Math.Seq.{take-append-add}
use Rattle.zscript.specs.Line.{ServiceWorld, ScriptState, script_state, answer, after, answers}
use Rattle.zscript.specs.Done.{IsLineDone}
use Rattle.zscript_text.specs.declared.limits.TheConstants.{MAX_LINE}
use Rattle.zscript.specs.declared.limits.TheConstants.{KEPT}
use Rattle.zscript.specs.support.Lines.{after_all}
use Rattle.zscript.specs.support.PlayerView.{PlayerView, world_now, kept_front}
use Rattle.zscript.proofs.LongLine.{answer-long, after-long}

take-take-append : (n : ℕ) (a b : List ℕ) → take n (take n a ++ b) ≡ take n (a ++ b)
take-take-append zero a b = refl
take-take-append (suc n) [] b = refl
take-take-append (suc n) (x ∷ a) b = ap (λ t. x ∷ t) (take-take-append n a b)

pub kept-append : (a b : List ℕ) → kept_front (kept_front a ++ b) ≡ kept_front (a ++ b)
unfolding kept_front
kept-append a b = take-take-append KEPT a b

pub kept-nil : kept_front [] ≡ []
unfolding kept_front
kept-nil = refl

pub kept-short : (line : List ℕ) → length line ≤ KEPT → kept_front line ≡ line
unfolding kept_front
kept-short line h = take_all KEPT line h

length-kept : (line : List ℕ) → MAX_LINE < length line → MAX_LINE < length (kept_front line)
unfolding kept_front
length-kept line h = omega (arith, length-take KEPT line)

short_or_long : (n : ℕ) → (n ≤ KEPT) ⊎ (MAX_LINE < n)
short_or_long n = cases (nat_le n KEPT) refl
  where
    cases : (t : Bool) → nat_le n KEPT ≡ t → (n ≤ KEPT) ⊎ (MAX_LINE < n)
    cases true e = inl (grind (arith, nat_tests))
    cases false e = inr (grind (arith, nat_tests))

-- a line that has begun shows in its stored prefix
pub some-kept : (line : List ℕ) → 0 < length line → 0 < length (kept_front line)
unfolding kept_front
some-kept line h = omega (arith, length-take KEPT line)

take-room : (m : ℕ) (part : List ℕ) → take (min (length part) m) part ≡ take m part
take-room m part =
    let e : min (length part) m ≡ min m (length part) = omega arith in
    ap (λ k. take k part) e ∙ take_min m part

-- the stored prefix is filled up to its room
pub kept-room : (line part : List ℕ) → length line ≤ KEPT → kept_front (line ++ part) ≡ line ++ take (min (length part) (KEPT - length line)) part
unfolding kept_front
kept-room line part h =
    let room = KEPT - length line in
    let e : KEPT ≡ length line + room = omega arith in
    ap (λ n. take n (line ++ part)) e ∙ take-append-add line part room ∙ ap (λ t. line ++ t) (sym (take-room room part))

pub answer-kept : (state : ScriptState) (line : List ℕ) → answer state (kept_front line) ≡ answer state line
answer-kept state line =
    elim (short_or_long (length line)) [
      | inl h ↦ ap (answer state) (kept-short line h)
      | inr h ↦ answer-long state (kept_front line) (length-kept line h) ∙ sym (answer-long state line h)
    ]

pub after-kept : (state : ScriptState) (line : List ℕ) → after state (kept_front line) ≡ after state line
after-kept state line =
    elim (short_or_long (length line)) [
      | inl h ↦ ap (after state) (kept-short line h)
      | inr h ↦ after-long state (kept_front line) (length-kept line h) ∙ sym (after-long state line h)
    ]

-- a line is done where its stored prefix is
pub line_done-kept : (writes : List ℕ → Type 0) (old new : ServiceWorld) (line : List ℕ) → IsLineDone old (kept_front line) new writes
    → IsLineDone old line new writes
line_done-kept writes old new line h = record {
  reported = h.reported;
  text = h.text;
  written = h.written;
  left = λ later. sym (after-kept (script_state old (h.reported ++ later)) line) ∙ h.left later;
  answered = λ later. sym (answer-kept (script_state old (h.reported ++ later)) line) ∙ h.answered later;
}

-- by a player that stores a prefix of what has begun
pub line_done-player : (p q : PlayerView) (new : ServiceWorld) (end bytes : List ℕ) → q.line ≡ kept_front (p.line ++ end)
    → world_now q ≡ world_now p → q.held ≡ p.held → IsLineDone (world_now q) q.line new (λ text. bytes ≡ q.held ++ text)
    → IsLineDone (world_now p) (p.line ++ end) new (λ text. bytes ≡ p.held ++ text)
line_done-player p q new end bytes line world held h =
    line_done-kept (λ text. bytes ≡ p.held ++ text) (world_now p) new (p.line ++ end) (rw (sym line, sym world, sym held) h)

-- where nothing of it has begun
pub line_done-whole : (writes : List ℕ → Type 0) (old new : ServiceWorld) (begun end : List ℕ) → length begun ≡ 0
    → IsLineDone old end new writes → IsLineDone old (begun ++ end) new writes
line_done-whole writes old new [] end e h = h
line_done-whole writes old new (x ∷ begun) end e h = absurd (omega (arith, e))

answers-kept : (lines : List (List ℕ)) (state : ScriptState) → answers state (map kept_front lines) ≡ answers state lines
answers-kept [] state = refl
answers-kept (line ∷ lines) state =
    (λ i. answer-kept state line i ++ answers (after-kept state line i) (map kept_front lines))
    ∙ ap (λ t. answer state line ++ t) (answers-kept lines (after state line))

after_all-kept : (lines : List (List ℕ)) (state : ScriptState) → after_all state (map kept_front lines) ≡ after_all state lines
after_all-kept [] state = refl
after_all-kept (line ∷ lines) state = ap (λ s. after_all s (map kept_front lines)) (after-kept state line) ∙ after_all-kept lines (after state line)

-- lines with the same stored prefixes do the same
pub answers-alike : (state : ScriptState) (xs ys : List (List ℕ)) → map kept_front xs ≡ map kept_front ys → answers state xs ≡ answers state ys
answers-alike state xs ys e = sym (answers-kept xs state) ∙ ap (answers state) e ∙ answers-kept ys state

pub after_all-alike : (state : ScriptState) (xs ys : List (List ℕ)) → map kept_front xs ≡ map kept_front ys → after_all state xs ≡ after_all state ys
after_all-alike state xs ys e = sym (after_all-kept xs state) ∙ ap (after_all state) e ∙ after_all-kept ys state

pub kept-none : (line part : List ℕ) → length line ≤ KEPT → length part ≡ 0 → line ≡ kept_front (line ++ part)
kept-none line [] h e = sym (ap kept_front (append-nil line) ∙ kept-short line h)
kept-none line (x ∷ part) h e = absurd (omega (arith, e))
