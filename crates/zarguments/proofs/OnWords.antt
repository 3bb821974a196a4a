-- What a proof unfolds to compute `asked_of` at words that are written out.
use Rattle.std.specs.Prelude.{⊤}
use Rattle.clap.proofs.OnLiterals.{clap_on_literals}
use Rattle.zarguments.specs.Asked.{asked_of}

unfoldable pub asked_on_literals : ⊤
unfolding asked_of clap_on_literals
asked_on_literals = tt
