-- What a node took and answered, between two of its states.
use Rattle.std.specs.Prelude.{◌≡◌, Bool, true, false, ℕ, List, [], ◌∷◌, ◌++◌}
use Rattle.std.specs.List.{flat_map, AllByRecursion}
use Rattle.zdevices.specs.Device.{IsBeginning}
use Rattle.znode.specs.pipe.Inputs.{InputView, Turn, input}
use Rattle.znode.specs.pipe.Outputs.{OutputView, output}

-- the bytes of inputs, and of outputs
abbrev pub inputs_text : List InputView → List ℕ
inputs_text inputs = flat_map input.spell inputs

abbrev pub outputs_text : List OutputView → List ℕ
outputs_text outputs = flat_map output.spell outputs

module _ {V : Type 0} (takes : V → InputView → List OutputView → V → Type 0) where
  -- inputs are taken in order, and these are all outputs
  abbrev pub Serves : List InputView → List OutputView → V → V → Type 0
  Serves [] outputs old new = (new ≡ old) × (outputs ≡ [])
  Serves (it ∷ inputs) outputs old new =
      (first : List OutputView) × (middle : V) × (more : List OutputView)
      × takes old it first middle × Serves inputs more middle new × (outputs ≡ first ++ more)

  -- It ended early. Inputs were taken, and the sink took a prefix of the outputs.
  pub record ServesSome (sends : List ℕ → Type 0) (old : V) : Type 0 where
    pub inputs : List InputView
    pub outputs : List OutputView
    pub last : V
    pub serves : Serves inputs outputs old last
    pub front : List ℕ
    pub is_front : IsBeginning front (outputs_text outputs)
    pub sent_it : sends front

module _ {V : Type 0} (takes : V → InputView → List OutputView → V → Type 0) (has_ended : V → Bool) where
  -- an input is taken by a node that has not ended
  abbrev pub GoesOn : V → InputView → List OutputView → V → Type 0
  GoesOn old it outputs new = (has_ended old ≡ false) × takes old it outputs new

  -- a node that has ended answers once more; any other does nothing more
  abbrev pub Ends : Bool → List OutputView → V → V → Type 0
  Ends false outputs old new = (has_ended old ≡ false) × (new ≡ old) × (outputs ≡ [])
  Ends true outputs old new = (has_ended old ≡ true) × takes old Turn outputs new

  -- The bytes are those of inputs, with a rest. They were taken, up to the first by which the node
  -- has ended, and the outputs went to the sink.
  pub record ServesFront (sends : List ℕ → Type 0) (bytes rest : List ℕ) (old new : V) : Type 0 where
    pub inputs : List InputView
    pub outputs : List OutputView
    pub serves : Serves GoesOn inputs outputs old new
    pub fit : AllByRecursion input.Fits inputs
    pub split : bytes ≡ inputs_text inputs ++ rest
    pub sent_them : sends (outputs_text outputs)

  -- The same of all bytes that a source gave, up to its end, or to that of the node.
  pub record ServesAll (ended : Bool) (gave sends : List ℕ → Type 0) (old new : V) : Type 0 where
    pub inputs : List InputView
    pub outputs : List OutputView
    pub middle : V
    pub serves : Serves GoesOn inputs outputs old middle
    pub last : List OutputView
    pub ends : Ends ended last middle new
    pub fit : AllByRecursion input.Fits inputs
    pub rest : List ℕ
    pub gave_them : gave (inputs_text inputs ++ rest)
    pub sent_them : sends (outputs_text (outputs ++ last))
