-- How a run of the program ends, by its words and by what its devices did.
use Rattle.std.specs.Prelude.{ℕ, ◌≡◌, ◌⊎◌, List, Ok}
use Rattle.zdevices.specs.Device.{SourceRun, SinkRun}
use Rattle.zarguments.specs.Reporting.{IsReported}
use Rattle.zscript.specs.Outcome.{IsPlayed, IsCutBy, IsIdle, play_fault_text}
use Rattle.zscript.specs.Servers.{IsServers}
use Rattle.zscript.specs.declared.fault.PlayFault.{PlayFault}
use Rattle.zscript.specs.declared.fault.PlayFault.TheVariants.{Memory}
use Rattle.zcommand.specs.Asked.{settings_asked}

-- The words ask for a script over exactly this many servers.
abbrev pub AskForServers : List (List ℕ) → ℕ → Type 0
AskForServers words servers = IsServers servers × (settings_asked words ≡ Ok servers)

-- Every line was played, by a chain of exactly the number of servers that the words ask for.
abbrev pub IsPlayedAsAsked : List (List ℕ) → SourceRun → SinkRun → Type 0
IsPlayedAsAsked words source sink = (servers : ℕ) × AskForServers words servers × IsPlayed servers source sink

-- A fault ended the run, with exactly the number of servers that the words ask for, and was
-- reported. Or memory ran out while the words were read: nothing was read or written, and this was
-- reported.
abbrev pub IsCutAndReported : List (List ℕ) → SourceRun → SinkRun → SinkRun → Type 0
IsCutAndReported words source sink faults =
    ((servers : ℕ) × AskForServers words servers × (fault : PlayFault) × IsCutBy servers source sink fault
    × IsReported faults (play_fault_text fault))
    ⊎ (IsIdle source sink × source.failed 0 × sink.failed 0 × IsReported faults (play_fault_text Memory))
