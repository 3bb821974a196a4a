-- What a device took of a line that a program reports: this project's profile.
use Rattle.std.specs.Prelude.{ℕ, ◌⊎◌, List, [], ◌∷◌, ◌++◌}
use Rattle.zdevices.specs.Device.{SinkRun, Failed, TookBeginning}

-- A device took the line, or it took a prefix of it and failed.
abbrev pub IsReported : SinkRun → List ℕ → Type 0
IsReported faults line =
    faults.took (line ++ 10 ∷ []) ⊎ (TookBeginning faults.took (line ++ 10 ∷ []) × Failed faults.failed)
