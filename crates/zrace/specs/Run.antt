-- How a race ends as a run of the program, by its words and by what its devices did.
use Rattle.std.specs.Prelude.{◌≡◌, ◌⊎◌, ℕ, List, [], length, All, IsSome, IsOk, IsErr, codes}
use Rattle.zdevices.specs.Device.{SinkRun, Failed, TookBeginning}
use Rattle.zarguments.specs.Reporting.{IsReported}
use Rattle.zrace.specs.Text.{outcome_text}
use Rattle.zrun.specs.declared.faults.StartFault.{StartFault}
use Rattle.zrun.specs.declared.faults.StartFault.TheVariants.{Memory, Thread}
use Rattle.zrace.specs.declared.plan.Race.{Race}
use Rattle.zrace.specs.declared.outcome.Outcome.{Outcome}
use Rattle.zrace.specs.Races as races
use Rattle.zrace.specs.Asked.{IsRaceAsked}

-- The line that says why there was no race.
abbrev pub start_fault_text : StartFault → List ℕ
start_fault_text Memory = codes "zk: memory"
start_fault_text Thread = codes "zk: thread"

-- It came of a race that the words ask for: a version, or none, of each of its nodes, and the
-- audit of its traces.
abbrev pub IsOutcomeOf : List (List ℕ) → Outcome → Type 0
IsOutcomeOf words outcome =
    (race : Race) × IsRaceAsked words race × (length outcome.versions.items ≡ race.rounds) × races.IsOutcomeOf race outcome

-- Each node was answered, the audit is ok, and all was written.
abbrev pub IsGoodReport : Outcome → SinkRun → Type 0
IsGoodReport outcome sink = All IsSome outcome.versions.items × IsOk outcome.audit × sink.took (outcome_text outcome)

-- All was written, but a node was not answered, or the audit isn't ok.
abbrev pub IsBadReport : Outcome → SinkRun → SinkRun → Type 0
IsBadReport outcome sink faults =
    (All IsSome outcome.versions.items → IsErr outcome.audit) × sink.took (outcome_text outcome) × faults.took []

-- The sink took a prefix and failed, and the fault was reported.
abbrev pub IsCutReport : Outcome → SinkRun → SinkRun → Type 0
IsCutReport outcome sink faults =
    TookBeginning sink.took (outcome_text outcome) × Failed sink.failed × IsReported faults (codes "zk: write failed")

-- Nothing was written, since memory ran out, and the fault was reported.
abbrev pub IsNoReport : SinkRun → SinkRun → Type 0
IsNoReport sink faults = sink.took [] × IsReported faults (start_fault_text Memory)

-- One of these three.
abbrev pub IsNotGoodReport : Outcome → SinkRun → SinkRun → Type 0
IsNotGoodReport outcome sink faults = IsNoReport sink faults ⊎ (IsCutReport outcome sink faults ⊎ IsBadReport outcome sink faults)

-- The race was good.
abbrev pub IsGoodRace : List (List ℕ) → SinkRun → Type 0
IsGoodRace words sink = (outcome : Outcome) × IsOutcomeOf words outcome × IsGoodReport outcome sink

-- Nothing was written, since memory ran out or a thread could not be started. The fault was
-- reported.
abbrev pub IsNoRace : SinkRun → SinkRun → Type 0
IsNoRace sink faults = sink.took [] × (IsReported faults (start_fault_text Memory) ⊎ IsReported faults (start_fault_text Thread))

-- There was no race, or it wasn't good.
abbrev pub IsNotGood : List (List ℕ) → SinkRun → SinkRun → Type 0
IsNotGood words sink faults =
    IsNoRace sink faults ⊎ ((outcome : Outcome) × IsOutcomeOf words outcome × IsNotGoodReport outcome sink faults)
