-- How a run over all blocks of a script ends.
use Rattle.std.specs.Prelude.{◌≡◌, ℕ, Result, Ok, Err}
use Rattle.zdevices.specs.Device.{SourceRun, SinkRun}
use Rattle.zdevices.specs.declared.device.Source as source
use Rattle.zdevices.specs.declared.device.Sink as sink
use Rattle.zscript.specs.Devices.{source_did, sink_did}
use Rattle.zscript.specs.Script.{opening_of}
use Rattle.zscript.specs.Outcome.{IsPlayed, IsCutBy}
use Rattle.zscript.specs.declared.fault.PlayFault.{PlayFault}
use Rattle.zscript.specs.support.PlayerView.{PlayerView, world_now}

-- All was played, or a fault ended the run.
abbrev pub EndsSo : {X : Type 0} → Result X PlayFault → ℕ → SourceRun → SinkRun → Type 0
EndsSo (Ok x) servers source sink = IsPlayed servers source sink
EndsSo (Err fault) servers source sink = IsCutBy servers source sink fault

-- The same of a player that has read nothing, by what the devices did, for any number of servers.
abbrev pub PlaysBlocks : {X S K : Type 0} → Result X PlayFault → PlayerView → source.Ghosts S → S → S → sink.Ghosts K → K → K → Type 0
PlaysBlocks result p gives before after takes first last =
    (servers : ℕ) → world_now p ≡ opening_of servers → EndsSo result servers (source_did gives before after) (sink_did takes first last)
