use Rattle.std.proofs.Common.{ℕ, Result}
use Rattle.std.specs.Str.Parse.{ExplainsUnsignedError, HasUnsignedDigitsIfOk, ParsesUnsigned}
use Rattle.std.specs.declared.num.ParseIntError.{ParseIntError}
use Rattle.clap.specs.Walk.{Text}
use Rattle.clap.specs.Matches.{found_of}
use Rattle.zarguments.proofs.Numbers.{number_in-read}
use Rattle.zarguments.proofs.asked.number_in.Goals as goal

-- what std says of a text that is read as a number of u16
abbrev Reads : Text → Result ℕ ParseIntError → Type 0
Reads t r = ParsesUnsigned 16 10 t r × ExplainsUnsignedError 10 t r × HasUnsignedDigitsIfOk t r

pub returns : goal.returns
returns c =
    number_in-read Reads (λ t r h. h.0) c.args.name.now (found_of c.args.given.now) c.get_one.result c.get_one.ensures.none c.get_one.ensures.value
