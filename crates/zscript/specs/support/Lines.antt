-- Lines as a player reads them: a line that has begun continues from block to block.
use Rattle.std.specs.Prelude.{◌≡◌, ℕ, false, List, [], ◌∷◌, ◌++◌, ◌==◌, if◌then◌else◌}
use Rattle.zprotocol.specs.declared.world.outcome.Outcome.{Outcome}
use Rattle.zscript.specs.Line.{ServiceWorld, ScriptState, script_state, after, answers}

-- The lines that end within some bytes, each without its LF, where a line has begun before them.
abbrev pub whole_lines_after : List ℕ → List ℕ → List (List ℕ)
whole_lines_after line [] = []
whole_lines_after line (b ∷ bs) =
    if b == 10 then line ∷ whole_lines_after [] bs else whole_lines_after (line ++ b ∷ []) bs

-- The line that has begun, and not ended, after those bytes.
abbrev pub line_left : List ℕ → List ℕ → List ℕ
line_left line [] = line
line_left line (b ∷ bs) = if b == 10 then line_left [] bs else line_left (line ++ b ∷ []) bs

-- The line that the end of the script ends: there is none where no byte follows the last LF.
abbrev pub last_line : List ℕ → List (List ℕ)
last_line [] = []
last_line (b ∷ bs) = (b ∷ bs) ∷ []

-- Those lines, and the one that the end of the script ends.
abbrev pub lines_after : List ℕ → List ℕ → List (List ℕ)
lines_after line bytes = whole_lines_after line bytes ++ last_line (line_left line bytes)

-- The state after some lines.
abbrev pub after_all : ScriptState → List (List ℕ) → ScriptState
after_all state [] = state
after_all state (line ∷ lines) = after_all (after state line) lines

-- Lines were executed, one after the other, and this was written: these outcomes occurred at them,
-- whatever comes after them.
pub record AreLinesDone (old : ServiceWorld) (lines : List (List ℕ)) (new : ServiceWorld) (writes : List ℕ → Type 0) : Type 0 where
  pub reported : List Outcome
  pub text : List ℕ
  pub written : writes text
  pub left : (later : List Outcome) → after_all (script_state old (reported ++ later)) lines ≡ script_state new later
  pub answered : (later : List Outcome) → answers (script_state old (reported ++ later)) lines ≡ text

-- These bytes have no LF.
abbrev pub IsPart : List ℕ → Type 0
IsPart [] = Unit {0}
IsPart (b ∷ bs) = ((b == 10) ≡ false) × IsPart bs
