-- A line that was executed, by a program that doesn't know the outcomes of its events beforehand.
use Rattle.std.specs.Prelude.{◌≡◌, ℕ, List, [], ◌++◌, String}
use Rattle.zprotocol.specs.declared.world.outcome.Outcome.{Outcome}
use Rattle.zworld.specs.Held.{Held, world_of}
use Rattle.zworld.specs.Steps.{WorldView}
use Rattle.zscript_text.specs.Texts.{Writes}
use Rattle.zscript.specs.Line.{ServiceWorld, script_state, answer, after}

-- the world between two lines, of the processes that are held
abbrev pub world_between : Held → ServiceWorld
world_between held = world_of held []

-- a line was executed, and this was written: these outcomes occurred at it, whatever comes after
-- them
pub record IsLineDone (old : ServiceWorld) (line : List ℕ) (new : ServiceWorld) (writes : List ℕ → Type 0) : Type 0 where
  pub reported : List Outcome
  pub text : List ℕ
  pub written : writes text
  pub left : (later : List Outcome) → after (script_state old (reported ++ later)) line ≡ script_state new later
  pub answered : (later : List Outcome) → answer (script_state old (reported ++ later)) line ≡ text

-- a line was executed on a world, and its answer written
abbrev pub AnswersLine : {A : Type 0} → List ℕ → WorldView → WorldView → String A → String A → Type 0
AnswersLine line old new before after =
    IsLineDone (world_between old.held) line (world_between new.held) (Writes before after)

-- a line was executed as it is where memory suffices, and its answer written
pub record IsLineActed (old : ServiceWorld) (line : List ℕ) (new : ServiceWorld) (writes : List ℕ → Type 0) : Type 0 where
  pub left : after (script_state old []) line ≡ script_state new []
  pub answered : writes (answer (script_state old []) line)

-- a line was executed on a world as it is where memory suffices, and its answer written
abbrev pub AnswersLineActing : {A : Type 0} → List ℕ → WorldView → WorldView → String A → String A → Type 0
AnswersLineActing line old new before after =
    IsLineActed (world_between old.held) line (world_between new.held) (Writes before after)
