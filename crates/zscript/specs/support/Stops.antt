-- A player's own faults: within one block of bytes, and within one line.
use Rattle.std.specs.Prelude.{ℕ, ◌<◌, List, [], ◌++◌, length}
use Rattle.zscript.specs.Line.{ServiceWorld}
use Rattle.zscript.specs.Done.{IsLineDone}
use Rattle.zdevices.specs.Device.{SinkRun, Failed, TookBeginning}
use Rattle.zdevices.specs.declared.device.Sink as sink
use Rattle.zscript.specs.Devices.{sink_did}
use Rattle.zscript.specs.Outcome.{IsStopped}
use Rattle.zscript.specs.support.Lines.{whole_lines_after, last_line, lines_after}
use Rattle.zscript.specs.support.PlayerView.{PlayerView, world_now}
use Rattle.zscript.specs.declared.fault.PlayFault.{PlayFault}
use Rattle.zscript.specs.declared.fault.PlayFault.TheVariants.{Read, Write, Memory}

-- A write fails among the whole lines; memory runs out before one of all lines.
abbrev pub IsStoppedBy :
    ServiceWorld → (whole all : List (List ℕ)) → (took : List ℕ → Type 0) (failed : ℕ → Type 0) → PlayFault → Type 0
IsStoppedBy world whole all took failed Read = ⊥
IsStoppedBy world whole all took failed Write = IsStopped world whole took × Failed failed
IsStoppedBy world whole all took failed Memory = (stopped : IsStopped world all took) × (0 < length stopped.rest) × failed 0

-- In a block, among the lines that end in it; memory may run out at the line that is left after
-- them.
abbrev pub IsBlockStoppedBy : PlayerView → List ℕ → SinkRun → PlayFault → Type 0
IsBlockStoppedBy p bytes sink =
    IsStoppedBy (world_now p) (whole_lines_after p.line bytes) (lines_after p.line bytes) sink.took sink.failed

-- In a block, among the lines that end in it.
abbrev pub AreLinesStoppedBy : PlayerView → List ℕ → SinkRun → PlayFault → Type 0
AreLinesStoppedBy p bytes sink =
    IsStoppedBy (world_now p) (whole_lines_after p.line bytes) (whole_lines_after p.line bytes) sink.took sink.failed

-- At the last line.
abbrev pub IsEndStoppedBy : PlayerView → SinkRun → PlayFault → Type 0
IsEndStoppedBy p sink = IsStoppedBy (world_now p) (last_line p.line) (last_line p.line) sink.took sink.failed

-- Within one line, where what is held, and then its reply, is to be written.
abbrev pub IsLineStoppedBy : PlayerView → List ℕ → SinkRun → PlayFault → Type 0
IsLineStoppedBy p line sink Read = ⊥
IsLineStoppedBy p line sink Write =
    (new : ServiceWorld) × IsLineDone (world_now p) line new (λ text. TookBeginning sink.took (p.held ++ text)) × Failed sink.failed
IsLineStoppedBy p line sink Memory = sink.took [] × sink.failed 0

-- The same, by what a sink did between two of its states: in a block, among the lines of a block,
abbrev pub StopsInBlock : {K : Type 0} → PlayerView → List ℕ → sink.Ghosts K → K → K → PlayFault → Type 0
StopsInBlock p bytes members before after = IsBlockStoppedBy p bytes (sink_did members before after)

abbrev pub StopsInLines : {K : Type 0} → PlayerView → List ℕ → sink.Ghosts K → K → K → PlayFault → Type 0
StopsInLines p bytes members before after = AreLinesStoppedBy p bytes (sink_did members before after)

-- at the last line,
abbrev pub StopsAtEnd : {K : Type 0} → PlayerView → sink.Ghosts K → K → K → PlayFault → Type 0
StopsAtEnd p members before after = IsEndStoppedBy p (sink_did members before after)

-- and within the line that these bytes end.
abbrev pub StopsInLine : {K : Type 0} → PlayerView → List ℕ → sink.Ghosts K → K → K → PlayFault → Type 0
StopsInLine p end members before after = IsLineStoppedBy p (p.line ++ end) (sink_did members before after)
