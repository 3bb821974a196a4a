-- Codes of the tables: proofs distinguish two of them by their codes.
use Rattle.std.specs.Prelude.{List, refl}
use Rattle.std.specs.Coded.{Coded, code_by, coded×}
use Rattle.zconnections.specs.buffers.Outbox.{ChunkView}
use Rattle.zconnections.specs.buffers.Streams.{StreamRows}
use Rattle.zconnections.specs.buffers.support.Codes.{coded_chunks, coded_rows}
use Rattle.zconnections.specs.attachments.Attachments.{AttachmentsView}
use Rattle.zconnections.specs.attachments.support.Codes.{coded_attachments}
use Rattle.zwatches.specs.Watches.{Watches}
use Rattle.zwatches.specs.declared.limits.WatchLimits.{WatchLimits}
use Rattle.zwatches.specs.support.Codes.{coded_limits, coded_watches}
use Rattle.zconnections.specs.Tables.{TablesView}

-- the codes of the tables
abbrev pub coded_tables : Coded TablesView
coded_tables =
    code_by (StreamRows × (AttachmentsView × ((Watches × WatchLimits) × List ChunkView)))
    (coded× coded_rows (coded× coded_attachments (coded× (coded× coded_watches coded_limits) coded_chunks)))
    (λ t. (t.streams, (t.attachments, ((t.watches, t.limits), t.unsent))))
    (λ p. record { streams = p.0; attachments = p.1.0; watches = p.1.1.0.0; limits = p.1.1.0.1; unsent = p.1.1.1 })
    (λ _. refl)
