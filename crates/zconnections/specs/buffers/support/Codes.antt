-- Codes of streams and chunks: proofs distinguish two of them by their codes.
use Rattle.std.specs.Prelude.{ℕ, Bool, List, refl}
use Rattle.std.specs.Coded.{Coded, code_by, coded×, coded_ℕ, coded_bool, coded_list}
use Rattle.std.specs.FinMap as finite
use Rattle.zconnections.specs.contracts.buffers.phase.Phase as phase
use Rattle.zconnections.specs.declared.buffers.phase.Phase.{Phase}
use Rattle.zconnections.specs.buffers.Outbox.{ChunkView}
use Rattle.zconnections.specs.buffers.Streams.{StreamView, StreamRows}

-- the codes of a stream
abbrev pub coded_stream : Coded StreamView
coded_stream =
    code_by (Phase × List ℕ) (coded× phase.the_row.coded (coded_list coded_ℕ))
    (λ s. (s.phase, s.bytes)) (λ p. record { phase = p.0; bytes = p.1 }) (λ _. refl)

-- the codes of all streams
abbrev pub coded_rows : Coded StreamRows
coded_rows = finite.code coded_ℕ coded_stream

-- the codes of a chunk
abbrev pub coded_chunk : Coded ChunkView
coded_chunk =
    code_by (ℕ × (List ℕ × Bool)) (coded× coded_ℕ (coded× (coded_list coded_ℕ) coded_bool))
    (λ p. (p.connection, (p.bytes, p.is_last)))
    (λ p. record { connection = p.0; bytes = p.1.0; is_last = p.1.1 }) (λ _. refl)

-- the codes of a list of chunks
abbrev pub coded_chunks : Coded (List ChunkView)
coded_chunks = coded_list coded_chunk
