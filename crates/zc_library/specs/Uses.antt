-- What a C program does with one service, call by call, and what it receives.
use Rattle.std.specs.Prelude.{◌≡◌, ℕ, nat_lt, List, [], ◌∷◌, ◌++◌, length, take, if◌then◌else◌}
use Rattle.zprotocol.specs.declared.world.outcome.Outcome.{Outcome}
use Rattle.zscript.specs.Line.{opening_script, answers}
use Rattle.zc_library.specs.declared.service.Service.{Service}
use Rattle.zc_library.specs.declared.status.Status.{Status}
use Rattle.zc_library.specs.declared.status.Status.TheVariants.{Done, Pending, Memory, NoServers}
use Rattle.zc_library.specs.Service.{IsOpened, Hears, Reports, to_report}

-- A call and its result: a line, and the status; or a buffer before and after, and the count.
pub data Call : Type 0 where
  Hear : List ℕ → Status → Call
  Report : List ℕ → List ℕ → ℕ → Call

-- one call
abbrev pub IsCalled : Service → Call → Service → Type 0
IsCalled old (Hear line status) new = Hears old new line status
IsCalled old (Report before after count) new = Reports old new before after count

-- a sequence of calls
abbrev pub IsUsed : Service → List Call → Service → Type 0
IsUsed old [] new = new ≡ old
IsUsed old (call ∷ calls) new = (next : Service) × IsCalled old call next × IsUsed next calls new

-- the line of a call, if it was executed
abbrev pub played_by : Call → List (List ℕ)
played_by (Hear line Done) = line ∷ []
played_by (Hear line Pending) = []
played_by (Hear line Memory) = []
played_by (Hear line NoServers) = []
played_by (Report before after count) = []

-- the answer that a call delivered: the beginning of its buffer, if there was room
abbrev pub reported_by : Call → List ℕ
reported_by (Hear line status) = []
reported_by (Report before after count) = if nat_lt (length before) count then [] else take count after

-- the lines that were executed
abbrev pub played_lines : List Call → List (List ℕ)
played_lines [] = []
played_lines (call ∷ calls) = played_by call ++ played_lines calls

-- all answers that were delivered
abbrev pub reported_bytes : List Call → List ℕ
reported_bytes [] = []
reported_bytes (call ∷ calls) = reported_by call ++ reported_bytes calls

-- Whatever the calls are: the answers delivered, and then the pending one, are a script's answers
-- to the executed lines, for some outcomes of its events.
abbrev pub ScriptsTextIsReported : Type 0
ScriptsTextIsReported =
    (servers : ℕ) (opened used : Service) (calls : List Call) → IsOpened servers opened → IsUsed opened calls used
    → (outcomes : List Outcome)
    × (reported_bytes calls ++ to_report used ≡ answers (opening_script servers outcomes) (played_lines calls))
