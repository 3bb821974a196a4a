-- A line that is too long: all such lines do the same and are answered alike.
use Rattle.std.proofs.Common.{◌≡◌, ◌<◌, ℕ, List, length, codes, refl, ap, true, arith}
use Rattle.std.proofs.lemmas.Bool.Decides.{nat_tests}
use Rattle.zscript_text.specs.declared.limits.TheConstants.{MAX_LINE}
use Rattle.zscript_text.specs.LineWords.{is_long}
use Rattle.zscript_text.specs.Line.{line_of}
use Rattle.zscript.specs.Line.{ScriptState, no_effect, effect_of, effect_text, forgotten, script_state, answer, after}

long : (line : List ℕ) → MAX_LINE < length line → is_long line ≡ true
long line h = grind (arith, nat_tests)

effect-long : (state : ScriptState) (line : List ℕ) → MAX_LINE < length line → effect_of state line ≡ no_effect state (codes "bad line")
unfolding effect_of line_of
effect-long state line h = rw (long line h) refl

pub answer-long : (state : ScriptState) (line : List ℕ) → MAX_LINE < length line → answer state line
    ≡ effect_text (no_effect state (codes "bad line"))
unfolding answer
answer-long state line h = ap effect_text (effect-long state line h)

pub after-long : (state : ScriptState) (line : List ℕ) → MAX_LINE < length line
    → after state line ≡ script_state (forgotten state.world) state.outcomes
unfolding after
after-long state line h = ap (λ effect. script_state (forgotten effect.did.world) effect.did.outcomes) (effect-long state line h)
