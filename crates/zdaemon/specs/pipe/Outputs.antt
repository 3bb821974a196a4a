-- What a host gets in reply: this project's own profile. Numbers have the highest byte first.
use Rattle.std.specs.Prelude.{ℕ, List, Result}
use Rattle.std.specs.Int.{w8, w32}
use Rattle.zcodec.specs.declared.fault.Fault.{Fault}
use Rattle.zcodec.specs.Forms.{Form, number, empty, both}
use Rattle.zcodec.specs.Choices.{flag, sized}
use Rattle.zjute.specs.Shapes.{Spelled, behind, fields, read_as, by_tag}
use Rattle.zconnections.specs.buffers.Outbox.{ChunkView}
use Rattle.zwire.specs.records.Sums.{at_tag, no_tag}
use Rattle.zdaemon.specs.declared.pipe.limits.TheConstants.{MAX_PIECE}

-- a chunk is to be sent; nothing more is sent before the next demand
pub data OutputView : Type 0 where
  Chunk : ChunkView → OutputView
  End : OutputView

-- a connection, whether these are its last bytes, and the bytes
unfoldable pub chunk : Form ChunkView
chunk =
    fields (both (number w32) (both flag (sized MAX_PIECE)))
    (λ p. (p.connection, (p.is_last, p.bytes)))
    (λ x. record { connection = x.0; is_last = x.1.0; bytes = x.1.1 })

unfoldable pub output_at : ℕ → List ℕ → Result (OutputView × List ℕ) Fault
output_at =
    at_tag 0 (read_as chunk (λ p. Chunk p))
    (at_tag 1 (read_as empty (λ _. End)) no_tag)

abbrev pub output_spelled : OutputView → Spelled ℕ
output_spelled (Chunk p) = behind 0 chunk p
output_spelled End = behind 1 empty tt

-- a byte says which it is
unfoldable pub output : Form OutputView
output = by_tag (number w8) output_at output_spelled
