-- Laws of the definitions: a line without LF has no answer before the source reported its end.
use Rattle.std.specs.Prelude.{◌≡◌, List, ℕ, [], ◌∷◌}
use Rattle.zdevices.specs.Device.{SourceRun, SinkRun}
use Rattle.zscript.specs.Outcome.{IsCut}

-- A source that gave these bytes and did not report its end.
abbrev pub source_giving : List ℕ → SourceRun
source_giving bytes = record { gave = λ given. given ≡ bytes; failed = λ count. count ≡ 0; ended = ⊥ }

-- A sink that took these bytes, and failed once.
abbrev pub sink_taking : List ℕ → SinkRun
sink_taking bytes = record { took = λ taken. taken ≡ bytes; failed = λ count. count ≡ 1 }

-- Where one byte was read, and neither an LF nor the end, nothing was written.
abbrev pub UnendedLinesHaveNoAnswer : Type 0
UnendedLinesHaveNoAnswer = (servers : ℕ) (text : List ℕ) → IsCut servers (source_giving (97 ∷ [])) (sink_taking text) → text ≡ []
