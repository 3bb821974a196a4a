-- A line that has begun may be replaced by the prefix of it that is stored.
use Rattle.std.proofs.Common.{◌≡◌, ◌<◌, ℕ, true, false, cond, List, [], ◌∷◌, ◌++◌, length, map, refl, sym, ap, ◌∙◌, arith, ◌==◌}
use Rattle.std.proofs.lemmas.List.{map-append, length-map}
use Rattle.zscript.specs.support.Lines.{whole_lines_after, line_left, last_line, lines_after}
use Rattle.zscript.specs.support.PlayerView.{kept_front}
use Rattle.zscript.proofs.Cached.{kept-append, kept-nil, some-kept}

kept-push : (a b more : List ℕ) → kept_front a ≡ kept_front b → kept_front (a ++ more) ≡ kept_front (b ++ more)
kept-push a b more e = sym (kept-append a more) ∙ ap (λ t. kept_front (t ++ more)) e ∙ kept-append b more

pub whole_lines_after-alike : (bytes a b : List ℕ) → kept_front a ≡ kept_front b → map kept_front (whole_lines_after a bytes)
    ≡ map kept_front (whole_lines_after b bytes)
whole_lines_after-alike [] a b e = refl
whole_lines_after-alike (x ∷ bytes) a b e =
    elim (x == 10) as (λ t. map kept_front (cond t (a ∷ whole_lines_after [] bytes) (whole_lines_after (a ++ x ∷ []) bytes))
    ≡ map kept_front (cond t (b ∷ whole_lines_after [] bytes) (whole_lines_after (b ++ x ∷ []) bytes))) [
      | true ↦ ap (λ t. t ∷ map kept_front (whole_lines_after [] bytes)) e
      | false ↦ whole_lines_after-alike bytes (a ++ x ∷ []) (b ++ x ∷ []) (kept-push a b (x ∷ []) e)
    ]

pub line_left-alike : (bytes a b : List ℕ) → kept_front a ≡ kept_front b → kept_front (line_left a bytes) ≡ kept_front (line_left b bytes)
line_left-alike [] a b e = e
line_left-alike (x ∷ bytes) a b e =
    elim (x == 10) as (λ t. kept_front (cond t (line_left [] bytes) (line_left (a ++ x ∷ []) bytes))
    ≡ kept_front (cond t (line_left [] bytes) (line_left (b ++ x ∷ []) bytes))) [
      | true ↦ refl
      | false ↦ line_left-alike bytes (a ++ x ∷ []) (b ++ x ∷ []) (kept-push a b (x ∷ []) e)
    ]

pub last_line-alike : (a b : List ℕ) → kept_front a ≡ kept_front b → map kept_front (last_line a) ≡ map kept_front (last_line b)
last_line-alike [] [] e = refl
last_line-alike [] (y ∷ b) e = absurd (omega (arith, ap length e, ap length kept-nil, some-kept (y ∷ b) (omega arith)))
last_line-alike (x ∷ a) [] e = absurd (omega (arith, ap length e, ap length kept-nil, some-kept (x ∷ a) (omega arith)))
last_line-alike (x ∷ a) (y ∷ b) e = ap (λ t. t ∷ []) e

pub lines_after-alike : (bytes a b : List ℕ) → kept_front a ≡ kept_front b → map kept_front (lines_after a bytes)
    ≡ map kept_front (lines_after b bytes)
lines_after-alike bytes a b e =
    map-append kept_front (whole_lines_after a bytes) (last_line (line_left a bytes))
    ∙ (λ i. whole_lines_after-alike bytes a b e i ++ last_line-alike (line_left a bytes) (line_left b bytes) (line_left-alike bytes a b e) i)
    ∙ sym (map-append kept_front (whole_lines_after b bytes) (last_line (line_left b bytes)))

-- lists of lines with the same stored prefixes are split alike
pub record Splits (played rest lines : List (List ℕ)) : Type 0 where
  pub front : List (List ℕ)
  pub back : List (List ℕ)
  pub split : lines ≡ front ++ back
  pub same : map kept_front played ≡ map kept_front front
  pub same_rest : map kept_front rest ≡ map kept_front back

pub splits : (played rest lines : List (List ℕ)) → map kept_front (played ++ rest) ≡ map kept_front lines → Splits played rest lines
splits [] rest lines e = record { front = []; back = lines; split = refl; same = refl; same_rest = e }
splits (x ∷ played) rest [] e = absurd (cc e)
splits (x ∷ played) rest (y ∷ lines) e =
    let head : kept_front x ≡ kept_front y = cc e in
    let tail : map kept_front (played ++ rest) ≡ map kept_front lines = cc e in
    let later = splits played rest lines tail in
    record {
      front = y ∷ later.front;
      back = later.back;
      split = λ i. y ∷ later.split i;
      same = λ i. head i ∷ later.same i;
      same_rest = later.same_rest;
    }

pub some_alike : (xs ys : List (List ℕ)) → map kept_front xs ≡ map kept_front ys → 0 < length xs → 0 < length ys
some_alike xs ys e h = omega (arith, ap length e, length-map xs kept_front, length-map ys kept_front)
