-- What contracts see of a device, by its fields.
use Rattle.zdevices.specs.DeviceViews.{SliceSourceView, VecSinkView, ReaderSourceView}
use Rattle.zdevices.specs.declared.memory.SliceSource.TheInside as source
use Rattle.zdevices.specs.declared.memory.VecSink.TheInside as sink
use Rattle.zdevices.specs.declared.stream.ReaderSource.TheInside as reader

-- of a source over memory
abbrev pub source_seen : source.Inside → SliceSourceView
source_seen s =
    record { left = s.left.now; at_most = s.at_most; fails_after = s.failure.calls_left; has_failed = s.has_failed; reported_end = s.reported_end }

-- of a sink over memory
abbrev pub sink_seen : sink.Inside → VecSinkView
sink_seen s = record { held = s.bytes.items; at_most = s.at_most; fails_after = s.failure.calls_left; has_failed = s.has_failed }

-- of a source over a reader
abbrev pub reader_seen : {R : Type 0} → reader.Inside R → ReaderSourceView R
reader_seen s = record { reader = s.reader; budget = s.budget; has_failed = s.has_failed; reported_end = s.reported_end }
