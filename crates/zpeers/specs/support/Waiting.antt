-- A message that waits, and the queue of one receiver.
use Rattle.std.specs.Prelude.{◌≡◌, ℕ, ◌+◌, ◌<◌, false, List, [], ◌∷◌, ◌++◌, length, Option, None, Some}
use Rattle.std.specs.List.{flat_map}
use Rattle.zprotocol.specs.declared.message.Message.TheVariants.{Snapshot}
use Rattle.zprotocol.specs.declared.process.Process.{Process}
use Rattle.zserver.specs.Server.{TreeMessage}
use Rattle.zsnapshots.specs.States.{KeysView, AreKeysOf}
use Rattle.zpeers.specs.Records.{LinkRecord, link_record, state_of, after_frame}
use Rattle.zpeers.specs.Outgoing.{WaitingView, left_of}

-- the keys of the rows of a message's state, if it has one
abbrev pub HasKeys : TreeMessage → Option KeysView → Type 0
HasKeys (Snapshot epoch t) None = ⊥
HasKeys (Snapshot epoch t) (Some keys) = AreKeysOf keys (state_of t) × (keys.is_alone ≡ false)
HasKeys m None = Unit {0}
HasKeys m (Some keys) = ⊥

-- how many records were written: none, or the frame and so many rows
abbrev pub written_by : Option KeysView → ℕ → ℕ
written_by None rows = 0
written_by (Some keys) rows = rows + 1

-- no row was written; or there are further records after them
abbrev pub IsWaiting : TreeMessage → Option KeysView → ℕ → Type 0
IsWaiting m None rows = rows ≡ 0
IsWaiting m (Some keys) rows = HasKeys m (Some keys) × (rows < length (after_frame m))

-- a record was written at the end of the bytes: the first of those that wait
pub record IsRecordWritten (old new : List LinkRecord) (before after : List ℕ) : Type 0 where
  pub it : LinkRecord
  pub next : old ≡ it ∷ new
  pub bytes : after ≡ before ++ link_record.spell it
  pub fits : link_record.Fits it

-- the first record of a message was, and others follow
pub record IsFirstWritten (own to : Process) (old new : WaitingView) (before after : List ℕ) : Type 0 where
  pub same : new.message ≡ old.message
  pub written : IsRecordWritten (left_of own to old) (left_of own to new) before after

-- its last record was
abbrev pub IsLastWritten : Process → Process → WaitingView → List ℕ → List ℕ → Type 0
IsLastWritten own to old = IsRecordWritten (left_of own to old) []

-- a queue, by its first message and the others
abbrev pub queue_of : Option WaitingView → List WaitingView → List WaitingView
queue_of None others = others
queue_of (Some w) others = w ∷ others

-- there are others only after a first one
abbrev pub IsQueue : Option WaitingView → List WaitingView → Type 0
IsQueue None others = others ≡ []
IsQueue (Some w) others = Unit {0}

-- the first record of a queue was
abbrev pub IsQueueWritten : Process → Process → List WaitingView → List WaitingView → List ℕ → List ℕ → Type 0
IsQueueWritten own to old new =
    IsRecordWritten (flat_map (left_of own to) old) (flat_map (left_of own to) new)
