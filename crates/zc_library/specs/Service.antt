-- What C's calls do to a service.
use Rattle.std.specs.Prelude.{◌≡◌, ℕ, ◌≤◌, ◌<◌, ◌⊎◌, List, [], ◌++◌, length, drop, string_bytes}
use Rattle.zprotocol.specs.declared.limits.TheConstants.{MAX_SERVERS}
use Rattle.zworld.specs.Steps.{WorldView}
use Rattle.zscript.specs.Line.{ServiceWorld}
use Rattle.zscript.specs.Done.{IsLineDone, world_between}
use Rattle.zscript.specs.Script.{opening_of}
use Rattle.zscript.specs.Servers.{IsServers}
use Rattle.zc_library.specs.declared.service.Service.{Service}
use Rattle.zc_library.specs.declared.service.Service.TheVariants.{Open, OutOfMemory, Refused}
use Rattle.zc_library.specs.declared.status.Status.{Status}
use Rattle.zc_library.specs.declared.status.Status.TheVariants.{Done, Pending, Memory, NoServers}

-- a status's number in C
abbrev pub code_of : Status → ℕ
code_of Done = 0
code_of Pending = 1
code_of Memory = 2
code_of NoServers = 3

-- the pending answer
abbrev pub to_report : Service → List ℕ
to_report (Open script answer) = string_bytes answer
to_report OutOfMemory = []
to_report Refused = []

-- A service was opened with that number of servers. Its world is in its initial state, and no
-- answer is pending; or memory ran out; or there is no such number of servers.
abbrev pub IsOpened : ℕ → Service → Type 0
IsOpened servers (Open script answer) =
    IsServers servers × (world_between script.held ≡ opening_of servers) × (string_bytes answer ≡ [])
IsOpened servers OutOfMemory = IsServers servers
IsOpened servers Refused = (servers ≡ 0) ⊎ (MAX_SERVERS < servers)

-- the status of a service that was just opened
abbrev pub status_of : Service → Status
status_of (Open script answer) = Done
status_of OutOfMemory = Memory
status_of Refused = NoServers

-- the code is that of the service's status, and the service stays as it was
abbrev pub IsStatusOf : Service → Service → ℕ → Type 0
IsStatusOf old new code = (new ≡ old) × (code ≡ code_of (status_of old))

-- a service was opened, and C receives this code
abbrev pub OpensAs : ℕ → Service → ℕ → Type 0
OpensAs servers new code = IsOpened servers new × (code ≡ code_of (status_of new))

-- a service is open, and this holds of its world and its pending answer
abbrev pub IsAt : Service → (ServiceWorld → List ℕ → Type 0) → Type 0
IsAt (Open script answer) holds = holds (world_between script.held) (string_bytes answer)
IsAt OutOfMemory holds = ⊥
IsAt Refused holds = ⊥

-- A world executes a line. Either that is done, and the line's answer is pending; or memory ran
-- out, and the world was dropped.
abbrev pub Plays : WorldView → Service → List ℕ → Status → Type 0
Plays script new line Done =
    IsAt new (λ world reported. IsLineDone (world_between script.held) line world (λ text. reported ≡ text))
Plays script new line Pending = ⊥
Plays script new line Memory = new ≡ OutOfMemory
Plays script new line NoServers = ⊥

-- A service receives a line. It is executed if no answer is pending, else nothing is done.
-- Running out of memory is permanent.
abbrev pub Hears : Service → Service → List ℕ → Status → Type 0
Hears (Open script answer) new line status =
    (string_bytes answer ≡ [] → Plays script new line status)
    × ((string_bytes answer ≡ [] → ⊥) → (status ≡ Pending) × (new ≡ Open script answer))
Hears OutOfMemory new line status = (status ≡ Memory) × (new ≡ OutOfMemory)
Hears Refused new line status = (status ≡ NoServers) × (new ≡ Refused)

-- the same, and C receives this code
abbrev pub HearsAs : Service → Service → List ℕ → ℕ → Type 0
HearsAs old new line code = (status : Status) × (code ≡ code_of status) × Hears old new line status

-- no answer is pending any more, and all else is as it was
abbrev pub HasReported : Service → Service → Type 0
HasReported (Open script answer) (Open left nothing) = (left ≡ script) × (string_bytes nothing ≡ [])
HasReported (Open script answer) OutOfMemory = ⊥
HasReported (Open script answer) Refused = ⊥
HasReported OutOfMemory new = new ≡ OutOfMemory
HasReported Refused new = new ≡ Refused

-- The pending answer is copied whole if the buffer has room for it, and the bytes after it stay.
-- Otherwise nothing is done. The count is the answer's length either way.
abbrev pub Reports : Service → Service → List ℕ → List ℕ → ℕ → Type 0
Reports old new before after count =
    (count ≡ length (to_report old))
    × (count ≤ length before → (after ≡ to_report old ++ drop count before) × HasReported old new)
    × (length before < count → (new ≡ old) × (after ≡ before))
