-- Laws of the definitions.
use Rattle.std.specs.Prelude.{◌≡◌, List}
use Rattle.std.specs.List.{flat_map, AllByRecursion}
use Rattle.zcodec.specs.Laws.{IsForm}
use Rattle.znode.specs.pipe.Inputs.{InputView, input}
use Rattle.znode.specs.pipe.Outputs.{OutputView, output}

-- what is read was spelled so, and fits; what fits and is spelled is read, with what follows
abbrev pub AreForms : Type 0
AreForms = IsForm input × IsForm output

-- no two sequences of inputs have the same bytes, and no two of outputs do
abbrev pub BytesAreDistinct : Type 0
BytesAreDistinct =
    ((a b : List InputView) → AllByRecursion input.Fits a → AllByRecursion input.Fits b →
    flat_map input.spell a ≡ flat_map input.spell b → a ≡ b)
    × ((a b : List OutputView) → AllByRecursion output.Fits a → AllByRecursion output.Fits b →
    flat_map output.spell a ≡ flat_map output.spell b → a ≡ b)
