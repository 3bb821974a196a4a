-- The bytes of each connection that form no whole frame yet. A read returns any number of bytes, so
-- a frame may arrive in several reads. The frames are those of ZooKeeper's clients (`zjute`). The
-- phases of a connection are this project's.
use Rattle.std.specs.Prelude.{ℕ, List, [], Option, length}
use Rattle.std.specs.List.{sum_by}
use Rattle.std.specs.Map.{values_of}
use Rattle.std.specs.Option.{option_map, option_map_or}
use Rattle.std.specs.Ordering.{nat_cmp}
use Rattle.std.specs.FinMap.{FinMap, entries, get, insert}
use Rattle.zconnections.specs.declared.buffers.phase.Phase.{Phase}
use Rattle.zconnections.specs.declared.buffers.phase.Phase.TheVariants.{Silent, Closing}

-- the stream of one connection: its phase, and the bytes that form no whole frame yet
pub record StreamView : Type 0 where
  pub phase : Phase
  pub bytes : List ℕ

-- the streams, each under its connection's number
abbrev pub StreamRows : Type 0
StreamRows = FinMap nat_cmp StreamView

-- a stream without bytes
abbrev pub empty_in : Phase → StreamView
empty_in phase = record { phase = phase; bytes = [] }

-- the stream of a connection on which nothing was read yet
abbrev pub opened : StreamView
opened = empty_in Silent

-- the streams with one connection's changed, if it has one
abbrev pub changed : (StreamView → StreamView) → StreamRows → ℕ → StreamRows
changed to rows connection = option_map_or (λ s. insert rows connection (to s)) (get rows connection) rows

-- the same with another phase
abbrev pub with_phase : StreamRows → ℕ → Phase → StreamRows
with_phase rows connection phase = changed (λ s. record s { phase = phase }) rows connection

-- the same with other bytes
abbrev pub with_bytes : StreamRows → ℕ → List ℕ → StreamRows
with_bytes rows connection bytes = changed (λ s. record s { bytes = bytes }) rows connection

-- the same closing, without bytes
abbrev pub closed : StreamRows → ℕ → StreamRows
closed rows connection = changed (λ s. empty_in Closing) rows connection

-- the phase of a connection, if it has a stream
abbrev pub phase_of : StreamRows → ℕ → Option Phase
phase_of rows connection = option_map (λ s. s.phase) (get rows connection)

-- the bytes of a connection; none if it has no stream
abbrev pub bytes_of : StreamRows → ℕ → List ℕ
bytes_of rows connection = option_map_or (λ s. s.bytes) (get rows connection) []

-- the number of bytes of all streams
abbrev pub held_of : StreamRows → ℕ
held_of rows = sum_by (λ (s : StreamView). length s.bytes) (values_of (entries rows))
