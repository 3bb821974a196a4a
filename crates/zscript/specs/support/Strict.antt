-- A line that is answered strictly or not.
use Rattle.std.specs.Prelude.{Bool, List, ℕ, String}
use Rattle.zworld.specs.Steps.{WorldView}
use Rattle.zscript.specs.Done.{AnswersLine}
use Rattle.zscript.specs.support.Effects.{MayReport}

-- a line was executed on a world, and its answer written; where it was strict, no server ran out of
-- memory
abbrev pub AnswersLineBy : {A : Type 0} → Bool → List ℕ → WorldView → WorldView → String A → String A → Type 0
AnswersLineBy strict line old new before after = (done : AnswersLine line old new before after) × MayReport strict done.reported
