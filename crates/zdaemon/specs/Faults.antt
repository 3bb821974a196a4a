-- The exit status of a program whose server ended early, and the line that reports why: this
-- project's own profile.
use Rattle.std.specs.Prelude.{◌≡◌, ◌⊎◌, ℕ, Bool, true, false, if◌then◌else◌, List, ◌++◌, codes, Option, Some, None, IfSome}
use Rattle.zarguments.specs.Words.{words_fault_status, words_fault_text}
use Rattle.zarguments.specs.Reporting.{IsReported}
use Rattle.zdevices.specs.Device.{SinkRun}
use Rattle.zjournal.specs.file.Faults.{fault_text}
use Rattle.zjournal.specs.declared.file.fault.FileFault.{FileFault}
use Rattle.zjournal.specs.declared.file.fault.FileFault.TheVariants as folder
use Rattle.zjournal.specs.declared.fault.OpenError.{OpenError}
use Rattle.zjournal.specs.declared.fault.OpenError.TheVariants as file
use Rattle.zdurable.specs.declared.fault.OpenFault.{OpenFault}
use Rattle.zdurable.specs.declared.fault.OpenFault.TheVariants as opening
use Rattle.zdurable.specs.declared.fault.DurableFault.{DurableFault}
use Rattle.zdurable.specs.declared.fault.DurableFault.TheVariants as ending
use Rattle.zlogins.specs.declared.fault.LoginsFault.{LoginsFault}
use Rattle.zlogins.specs.declared.fault.LoginsFault.TheVariants as logins
use Rattle.zdaemon.specs.declared.pipe.fault.ServeFault.{ServeFault}
use Rattle.zdaemon.specs.declared.pipe.fault.ServeFault.TheVariants as serving
use Rattle.zdaemon.specs.declared.fault.HostedFault.{HostedFault}
use Rattle.zdaemon.specs.declared.fault.HostedFault.TheVariants.{Words, Logins, Folder, Service, Serve, Missing, Script}

-- a text that has no logins is 2
abbrev pub logins_status : LoginsFault → ℕ
logins_status logins.Memory = 1
logins_status fault = 2

-- a folder that isn't opened is 3; a disk that failed is 4
abbrev pub folder_status : FileFault → ℕ
folder_status folder.Memory = 1
folder_status folder.Io = 4
folder_status fault = 3

abbrev pub file_status : OpenError → ℕ
file_status file.Memory = 1
file_status file.Failed = 4
file_status fault = 3

abbrev pub renewal_status : DurableFault → ℕ
renewal_status ending.Memory = 1
renewal_status fault = 4

abbrev pub service_status : OpenFault → ℕ
service_status opening.Memory = 1
service_status (opening.Journal fault) = file_status fault
service_status opening.NotRecords = 3
service_status (opening.Limits fault) = 3
service_status (opening.Renewal fault) = renewal_status fault

abbrev pub serve_status : ServeFault → ℕ
serve_status serving.Disk = 4
serve_status serving.Full = 4
serve_status serving.Ended = 4
serve_status fault = 1

abbrev pub hosted_fault_status : HostedFault → ℕ
hosted_fault_status (Words fault) = words_fault_status fault
hosted_fault_status (Logins fault) = logins_status fault
hosted_fault_status (Folder fault) = folder_status fault
hosted_fault_status (Service fault) = service_status fault
hosted_fault_status (Serve fault) = serve_status fault
hosted_fault_status Missing = 3
hosted_fault_status Script = 3

-- ---- lines

abbrev pub serve_fault_text : ServeFault → List ℕ
serve_fault_text serving.Memory = codes "memory"
serve_fault_text serving.Read = codes "read failed"
serve_fault_text serving.NoInput = codes "no input of a host"
serve_fault_text serving.Write = codes "write failed"
serve_fault_text serving.Disk = codes "data: the disk failed"
serve_fault_text serving.Full = codes "data: the journal is full"
serve_fault_text serving.Ended = codes "data: the service has ended"

abbrev pub memory_line : List ℕ
memory_line = codes "zk: memory"

-- memory ran out while logins were read or a folder was opened
abbrev pub is_of_memory : HostedFault → Bool
is_of_memory (Logins logins.Memory) = true
is_of_memory (Folder folder.Memory) = true
is_of_memory (Service opening.Memory) = true
is_of_memory (Service (opening.Journal file.Memory)) = true
is_of_memory (Service (opening.Renewal ending.Memory)) = true
is_of_memory fault = false

-- any other fault. None: what is wrong with a file's content has many texts, and so has what is
-- wrong with logins
abbrev pub other_line_of : HostedFault → Option (List ℕ)
other_line_of (Words fault) = Some (words_fault_text fault)
other_line_of (Logins fault) = None
other_line_of (Folder fault) = Some (codes "zk: data: " ++ fault_text fault)
other_line_of (Service fault) = None
other_line_of (Serve fault) = Some (codes "zk: " ++ serve_fault_text fault)
other_line_of Missing = Some (codes "zk: data: there is no journal")
other_line_of Script = Some (codes "zk: data: a script's folder, and no server's: its file is its script")

abbrev pub line_of : HostedFault → Option (List ℕ)
line_of fault = if is_of_memory fault then Some memory_line else other_line_of fault

-- the fault's line was reported; or there was no memory for it, and that was
abbrev pub IsTold : HostedFault → SinkRun → Type 0
IsTold fault faults =
    ((line : List ℕ) × IfSome (line_of fault) (λ text. line ≡ text) × IsReported faults line) ⊎ IsReported faults memory_line

-- the status is that of a fault, and the last line reports it
abbrev pub HasFailed : {F : Type 0} → (F → F → SinkRun) → ℕ → F → Type 0
HasFailed {F} run status last = (fault : HostedFault) × (status ≡ hosted_fault_status fault) × (before : F) × IsTold fault (run before last)
