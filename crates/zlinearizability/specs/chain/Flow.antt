-- What is in flight to a server from its predecessor: the log that it would have after receiving
-- all of it, and the first log that it would show.
use Rattle.std.specs.Prelude.{ℕ, ◌+◌, ◌==◌, nat_lt, if◌then◌else◌, Option, None, Some, List, [], ◌∷◌, ◌++◌, length}
use Rattle.zcalls.specs.declared.call.Entry.{Entry}
use Rattle.zcalls.specs.Cached.{Plain}
use Rattle.zprotocol.specs.declared.limits.TheConstants.{MAX_LOG_NUMBER}
use Rattle.zprotocol.specs.declared.message.Message.TheVariants as message
use Rattle.zprotocol.specs.declared.process.Process.TheVariants.{Server}
use Rattle.zprotocol.specs.server.Machine.{Does, log_of, machine_of}
use Rattle.zprotocol.specs.server.View.{MessageOf, Neighbour}
use Rattle.zprotocol.specs.world.World.{World}

-- a log, if there is one
abbrev pub Log : Type 0
Log = Option (List Entry)

-- a message of the log world, and that world
abbrev pub LogMessage : Type 0
LogMessage = MessageOf (List Entry)

abbrev pub LogWorld : Type 0
LogWorld = World (List Entry)

-- the machine of the log world: the log of entries, over that of a plain service
abbrev pub log_machine : {P : Type 0} → Plain P → Does (List Entry)
log_machine plain = log_of (machine_of plain)

-- a log after an entry of this number, if it is the next one and there is room
abbrev pub with_entry : List Entry → ℕ → Entry → List Entry
with_entry log n entry =
    if n == length log + 1 then if nat_lt (length log) MAX_LOG_NUMBER then log ++ entry ∷ [] else log else log

-- the same of a log that may not be there
abbrev pub log_with_entry : Log → ℕ → Entry → Log
log_with_entry None n entry = None
log_with_entry (Some log) n entry = Some (with_entry log n entry)

-- a log after a whole log was received
abbrev pub log_with_snapshot : Log → List Entry → Log
log_with_snapshot None log = Some log
log_with_snapshot (Some old) log = Some old

-- a log after a message of the predecessor, in an epoch
abbrev pub log_with_message : ℕ → Log → LogMessage → Log
log_with_message k log (message.Update epoch n entry) = if k == epoch then log_with_entry log n entry else log
log_with_message k log (message.Snapshot epoch transfer) = if k == epoch then log_with_snapshot log transfer.machine else log
log_with_message k log other = log

-- a log after messages of the predecessor, in an epoch
abbrev pub flow : ℕ → Log → List LogMessage → Log
flow k log [] = log
flow k log (m ∷ more) = flow k (log_with_message k log m) more

-- the whole log that a message hands over in an epoch
abbrev pub snapshot_of : ℕ → LogMessage → Log
snapshot_of k (message.Snapshot epoch transfer) = if k == epoch then Some transfer.machine else None
snapshot_of k other = None

-- the one, or else the other
abbrev pub or_else : Log → Log → Log
or_else None other = other
or_else (Some log) other = Some log

-- the first log that is received whole, in an epoch
abbrev pub first_snapshot : ℕ → List LogMessage → Log
first_snapshot k [] = None
first_snapshot k (m ∷ more) = or_else (snapshot_of k m) (first_snapshot k more)

-- the log that a server holds
abbrev pub log_at : LogWorld → ℕ → Log
log_at w s = (w.servers s).machine

-- what a server would hold after all that its predecessor sent, from what it holds
abbrev pub final_log_by : LogWorld → ℕ → Log → Option Neighbour → Log
final_log_by w s log None = log
final_log_by w s log (Some pred) = flow pred.1 log (w.links (Server pred.0) (Server s))

abbrev pub final_log : LogWorld → ℕ → Log
final_log w s = final_log_by w s (log_at w s) (w.servers s).pred

-- the first log that a server shows: its own, or the first that is received whole
abbrev pub first_snapshot_by : LogWorld → ℕ → Option Neighbour → Log
first_snapshot_by w s None = None
first_snapshot_by w s (Some pred) = first_snapshot pred.1 (w.links (Server pred.0) (Server s))

abbrev pub first_log : LogWorld → ℕ → Log
first_log w s = or_else (log_at w s) (first_snapshot_by w s (w.servers s).pred)

-- the number of the last entry
abbrev pub length_of : Log → ℕ
length_of None = 0
length_of (Some log) = length log
