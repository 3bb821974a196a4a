-- What waits to be sent: a queue of messages for each receiver. Some records of the first message
-- may have been written.
use Rattle.std.specs.Prelude.{◌≡◌, ◌≢◌, ℕ, ◌+◌, ◌<◌, ◌≤◌, List, [], ◌∷◌, ◌++◌, drop, length, slice_index_or, Option, None, Some}
use Rattle.std.specs.List.{flat_map}
use Rattle.zprotocol.specs.declared.process.Process.{Process}
use Rattle.zprotocol.specs.Places.{place_of}
use Rattle.zserver.specs.Server.{TreeMessage}
use Rattle.zwire.specs.declared.fault.WriteError.{WriteError}
use Rattle.zwire.specs.declared.fault.WriteError.TheVariants.{TooLong, Memory}
use Rattle.zwire.specs.declared.limits.TheConstants.{MAX_FRAME}
use Rattle.zwire.specs.Frames.{contents, frame_of}
use Rattle.zpeers.specs.Records.{LinkRecord, link_record, records_of}

-- a message that waits, and how many of its records were written
pub record WaitingView : Type 0 where
  pub message : TreeMessage
  pub written : ℕ

-- the queues, in the order of their receivers
pub record OutgoingView : Type 0 where
  pub queues : List (List WaitingView)

-- what waits for a receiver, in order
abbrev pub waiting_for : OutgoingView → Process → List WaitingView
waiting_for o to = slice_index_or o.queues (place_of to) []

-- the records of a message that aren't written yet
abbrev pub left_of : Process → Process → WaitingView → List LinkRecord
left_of own to w = drop w.written (records_of own to w.message)

-- the records that wait for a receiver
abbrev pub records_for : OutgoingView → Process → Process → List LinkRecord
records_for o own to = flat_map (left_of own to) (waiting_for o to)

-- nothing has changed for the other receivers
abbrev pub OthersWait : OutgoingView → OutgoingView → Process → Type 0
OthersWait old new to = (p : Process) → p ≢ to → waiting_for new p ≡ waiting_for old p

-- the first record that waits for a receiver was written at the end of the bytes
pub record IsWritten (own to : Process) (old new : OutgoingView) (before after : List ℕ) : Type 0 where
  pub it : LinkRecord
  pub next : records_for old own to ≡ it ∷ records_for new own to
  pub bytes : after ≡ before ++ link_record.spell it
  pub fits : link_record.Fits it
  pub others : OthersWait old new to

-- Why no record was written: memory ran out; or none of this message's was written yet, and its
-- frame would be too long.
abbrev pub IsLongFrame : Process → Process → WaitingView → WriteError → Type 0
IsLongFrame own to w Memory = Unit {0}
IsLongFrame own to w TooLong =
    (w.written ≡ 0) × (MAX_FRAME < length (contents.spell (frame_of own to w.message)))

-- the same of the first message that waits for a receiver
abbrev pub IsFirstLong : Process → Process → List WaitingView → WriteError → Type 0
IsFirstLong own to [] error = ⊥
IsFirstLong own to (w ∷ ws) error = IsLongFrame own to w error

abbrev pub IsLong : Process → Process → OutgoingView → WriteError → Type 0
IsLong own to o = IsFirstLong own to (waiting_for o to)

-- ---- the order of receivers

-- the first position after a receiver, or after none
abbrev pub place_after : Option Process → ℕ
place_after None = 0
place_after (Some p) = place_of p + 1

-- nothing waits for the receivers from one position up to another
abbrev pub NoneWaits : OutgoingView → ℕ → ℕ → Type 0
NoneWaits o low high =
    (p : Process) → low ≤ place_of p → place_of p < high → waiting_for o p ≡ []

-- it is the first receiver after this one for which something waits
pub record IsNextReceiver (o : OutgoingView) (after : Option Process) (to : Process) : Type 0 where
  pub waits : waiting_for o to ≢ []
  pub later : place_after after ≤ place_of to
  pub first : NoneWaits o (place_after after) (place_of to)
