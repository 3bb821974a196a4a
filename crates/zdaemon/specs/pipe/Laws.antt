-- Laws of the definitions.
use Rattle.std.specs.Prelude.{◌≡◌, List}
use Rattle.std.specs.List.{flat_map, AllByRecursion}
use Rattle.zcodec.specs.Laws.{IsForm}
use Rattle.zdaemon.specs.pipe.Messages.{MessageView, message}
use Rattle.zdaemon.specs.pipe.Outputs.{OutputView, output}

-- what is read was spelled so, and fits; what fits and is spelled is read, with what follows
abbrev pub AreForms : Type 0
AreForms = IsForm message × IsForm output

-- no two sequences of messages have the same bytes, and no two of answers do
abbrev pub BytesAreDistinct : Type 0
BytesAreDistinct =
    ((a b : List MessageView) → AllByRecursion message.Fits a → AllByRecursion message.Fits b →
    flat_map message.spell a ≡ flat_map message.spell b → a ≡ b)
    × ((a b : List OutputView) → AllByRecursion output.Fits a → AllByRecursion output.Fits b →
    flat_map output.spell a ≡ flat_map output.spell b → a ≡ b)
