-- Passes of one ticket word.
use Rattle.std.specs.Prelude.{List, All}
use Rattle.zchannels.specs.declared.tickets.Pass.{Pass}
use Rattle.zchannels.specs.declared.tickets.Tickets.{Tickets}
use Rattle.zchannels.specs.Passes.{IsPassOf}

abbrev pub AreOf : Tickets → Pass × Pass → Type 0
AreOf tickets two = IsPassOf tickets two.0 × IsPassOf tickets two.1

abbrev pub AreAllOf : Tickets → List Pass → Type 0
AreAllOf tickets passes = All (λ pass. IsPassOf tickets pass) passes
