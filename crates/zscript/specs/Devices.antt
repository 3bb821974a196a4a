-- What a device did between two of its states, by the members of its trait at the device's type.
use Rattle.zdevices.specs.Device.{SourceRun, SinkRun, source_run, sink_run}
use Rattle.zdevices.specs.declared.device.Source as source
use Rattle.zdevices.specs.declared.device.Sink as sink

-- A source.
abbrev pub source_did : {S : Type 0} → source.Ghosts S → S → S → SourceRun
source_did members before after = source_run members.gave members.failed members.has_ended before after

-- A sink.
abbrev pub sink_did : {K : Type 0} → sink.Ghosts K → K → K → SinkRun
sink_did members before after = sink_run members.took members.failed before after
