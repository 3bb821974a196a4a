-- What holds of lawful traces, over any machine: each statement is a contract in `src/laws.rt`.
use Rattle.std.specs.Prelude.{◌≡◌, ◌≤◌, ℕ, true, List, [], ◌∷◌}
use Rattle.zprotocol.specs.declared.process.Process.{Process}
use Rattle.zprotocol.specs.server.Machine.{Does}
use Rattle.zprotocol.specs.world.World.{opening_world}
use Rattle.zprotocol.specs.world.Events.{run}
use Rattle.zprotocol.specs.declared.traces.trace.Traces.{Traces}
use Rattle.zprotocol.specs.traces.Deeds.{Deed}
use Rattle.zprotocol.specs.traces.Traces.{Step, trace_of, record_of, client_count, reported_of, IsMerge, BeginsMerge, stamps_rise, are_in_place, events_of}
use Rattle.zprotocol.specs.traces.Lawful.{AccountFor}

-- the timestamps of lawful traces rise
abbrev pub LawfulStampsRise : {M : Type 0} → Does M → Type 0
LawfulStampsRise {M} machine =
    (t : Traces) (deeds : Process → List (Deed M)) → AccountFor machine t deeds → (p : Process) → stamps_rise (trace_of t p) ≡ true

-- each event of a prefix of their merge is allowed
abbrev pub LawfulEventsAreInPlace : {M : Type 0} → Does M → Type 0
LawfulEventsAreInPlace {M} machine =
    (t : Traces) (deeds : Process → List (Deed M)) (steps : List Step) → AccountFor machine t deeds → BeginsMerge t steps
    → are_in_place machine (opening_world machine t.last (client_count t)) steps ≡ true

-- and the history of the whole run agrees with each client's record
abbrev pub LawfulRunsReportTheRecords : {M : Type 0} → Does M → Type 0
LawfulRunsReportTheRecords {M} machine =
    (t : Traces) (deeds : Process → List (Deed M)) (steps : List Step) → AccountFor machine t deeds → IsMerge t steps
    → (c : ℕ) → reported_of c (run machine (opening_world machine t.last (client_count t)) (events_of steps)).history ≡ record_of t c

-- traces have at most one merge
abbrev pub MergeIsOne : Type 0
MergeIsOne = (t : Traces) (xs ys : List Step) → IsMerge t xs → IsMerge t ys → xs ≡ ys

-- and they have one
abbrev pub EachHasAMerge : Type 0
EachHasAMerge = (t : Traces) → (steps : List Step) × IsMerge t steps

-- the timestamps of steps never fall, from this one on
abbrev pub NeverFallFrom : ℕ → List Step → Type 0
NeverFallFrom last [] = Unit {0}
NeverFallFrom last (step ∷ steps) = (last ≤ step.event.stamp) × NeverFallFrom step.event.stamp steps

-- along the merge of traces whose timestamps rise, timestamps never fall: of two events the one
-- with the smaller timestamp comes first
abbrev pub MergeGoesByStamps : Type 0
MergeGoesByStamps =
    (t : Traces) (steps : List Step) → ((p : Process) → stamps_rise (trace_of t p) ≡ true) → BeginsMerge t steps → NeverFallFrom 0 steps
