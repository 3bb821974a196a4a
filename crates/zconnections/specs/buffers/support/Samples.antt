-- Samples for the worked examples.
use Rattle.std.specs.Prelude.{ℕ, List, [], ◌∷◌}
use Rattle.std.specs.FinMap.{from_entries}
use Rattle.zconnections.specs.declared.buffers.phase.Phase.{Phase}
use Rattle.zconnections.specs.declared.buffers.phase.Phase.TheVariants.{Silent, Speaking}
use Rattle.zconnections.specs.buffers.Streams.{StreamView, StreamRows}

-- nothing was read on connection 5
abbrev pub silent : StreamView
silent = record { phase = Silent; bytes = [] }

-- connection 3, in some phase, with some bytes
abbrev pub entries_with : Phase → List ℕ → List (ℕ × StreamView)
entries_with phase bytes = (3, record { phase = phase; bytes = bytes }) ∷ (5, silent) ∷ []

abbrev pub streams_with : Phase → List ℕ → StreamRows
streams_with phase bytes = from_entries (entries_with phase bytes)

-- it has session 7, and two bytes arrived
abbrev pub streams : StreamRows
streams = streams_with (Speaking 7) (1 ∷ 2 ∷ [])
