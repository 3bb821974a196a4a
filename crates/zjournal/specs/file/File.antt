-- What a device over a file holds.
use Rattle.std.specs.Prelude.{ℕ, Bool, List, length, Option, None, Some, Vec}
use Rattle.zjournal.specs.declared.file.device.FileDevice.{FileDevice}
use Rattle.zjournal.specs.declared.file.mode.SyncMode.{SyncMode}
use Rattle.zjournal.specs.declared.file.tail.Tail.{Tail}
use Rattle.zjournal.specs.file.Events.{Event, replay, MayLeave}

-- whether its syncs ask the disk
abbrev pub mode_of : {R : Type 0} → FileDevice R → SyncMode
mode_of f = f.mode

-- the calls so far, the newest first
abbrev pub events_of : {R : Type 0} → FileDevice R → List Event
events_of f = f.log.events

-- what a read returns, and what a crash may leave
abbrev pub seen_of : {R : Type 0} → FileDevice R → List ℕ
seen_of f = (replay (events_of f)).seen

abbrev pub MayLeaveOf : {R : Type 0} → FileDevice R → List ℕ → Type 0
MayLeaveOf f = MayLeave (events_of f)

-- the number of bytes that wait to be returned
abbrev pub count_of : {A : Type 0} → Option (Vec ℕ A) → ℕ
count_of None = 0
count_of (Some bytes) = length bytes.items

abbrev pub waiting_of : {R : Type 0} → FileDevice R → ℕ
waiting_of f = count_of f.waits

-- what was cut off at opening, and whether a sync failed before
abbrev pub tail_of : {R : Type 0} → FileDevice R → Option Tail
tail_of f = f.tail

abbrev pub had_failed_of : {R : Type 0} → FileDevice R → Bool
had_failed_of f = f.had_failed

-- the bytes of the parts before the last one: the index at which that one begins
abbrev pub beginning_of : {R : Type 0} → FileDevice R → ℕ
beginning_of f = f.place.start
