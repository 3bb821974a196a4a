-- The steps in which a node serves.
use Rattle.std.specs.Prelude.{◌⊎◌, Bool, ℕ, List, [], ◌++◌}
use Rattle.std.specs.List.{AllByRecursion}
use Rattle.zdevices.specs.Device.{IsBeginning}
use Rattle.znode.specs.pipe.Inputs.{InputView, input}
use Rattle.znode.specs.pipe.Outputs.{OutputView}
use Rattle.znode.specs.pipe.Serving.{Serves, GoesOn, inputs_text, outputs_text}

module _ {V : Type 0} (takes : V → InputView → List OutputView → V → Type 0) where
  -- an input is taken, and its outputs go to the sink
  pub record SendsFor (it : InputView) (sends : List ℕ → Type 0) (old new : V) : Type 0 where
    pub outputs : List OutputView
    pub taken : takes old it outputs new
    pub sent_them : sends (outputs_text outputs)

  -- it is taken, and the sink takes a prefix of its outputs; or it isn't taken
  pub record Part (it : InputView) (sends : List ℕ → Type 0) (old : V) : Type 0 where
    pub outputs : List OutputView
    pub last : V
    pub taken : takes old it outputs last
    pub front : List ℕ
    pub is_front : IsBeginning front (outputs_text outputs)
    pub sent_it : sends front

  abbrev pub SendsPart : InputView → (List ℕ → Type 0) → V → Type 0
  SendsPart it sends old = sends [] ⊎ Part it sends old

module _ {V : Type 0} (takes : V → InputView → List OutputView → V → Type 0) (has_ended : V → Bool) where
  -- the inputs so far were taken, and this is left of the bytes that the source gave
  pub record IsGoing (gave sends : List ℕ → Type 0) (begun : List ℕ) (old now : V) : Type 0 where
    pub inputs : List InputView
    pub outputs : List OutputView
    pub serves : Serves (GoesOn takes has_ended) inputs outputs old now
    pub fit : AllByRecursion input.Fits inputs
    pub gave_them : gave (inputs_text inputs ++ begun)
    pub sent_them : sends (outputs_text outputs)
