-- Steps of a front end for ZooKeeper's clients, in order.
use Rattle.std.specs.Prelude.{◌≡◌, ◌≤◌, List, [], ◌∷◌}
use Rattle.zconnections.specs.buffers.Inputs.{InputView}
use Rattle.zconnections.specs.buffers.Streams.{held_of}
use Rattle.zfront.specs.declared.limits.TheConstants.{MAX_KEPT}
use Rattle.zfront.specs.Front.{FrontView}
use Rattle.zfront.specs.Inputs as inputs
use Rattle.zfront.specs.Inputs.{without_first}
use Rattle.zfront.specs.Restoring.{all_taken}

-- an input is handled; the first chunk is sent; the recorded updates are taken
pub data Step : Type 0 where
  Takes : InputView → Step
  Sent : Step
  Took : Step

-- all connections together store at most this many bytes of partial frames
abbrev pub KeepsFew : FrontView → Type 0
KeepsFew v = held_of v.tables.streams ≤ MAX_KEPT

-- the effect of a step
abbrev pub Does : Step → FrontView → FrontView → Type 0
Does (Takes input) old new = inputs.Does input old new
Does Sent old new = new ≡ without_first old
Does Took old new = new ≡ all_taken old

-- the effect of steps in order
abbrev pub Runs : List Step → FrontView → FrontView → Type 0
Runs [] old new = new ≡ old
Runs (step ∷ steps) old new = (middle : FrontView) × Does step old middle × Runs steps middle new
