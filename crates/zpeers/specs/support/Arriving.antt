-- Parts of what a record does.
use Rattle.std.specs.Prelude.{◌≡◌, ℕ, Bool, List, Option, None, Some, Ok, IsFalse}
use Rattle.zcodec.specs.Readers.{whole}
use Rattle.zprotocol.specs.declared.message.Message.TheVariants.{Snapshot}
use Rattle.zprotocol.specs.declared.process.Process.{Process}
use Rattle.zserver.specs.Server.{TreeMessage}
use Rattle.zwire.specs.Frames.{contents}
use Rattle.zwire.specs.Messages.{Bare, bare}
use Rattle.zsnapshots.specs.States.{IsReadable, rows_of}
use Rattle.zsnapshots.specs.Loading.{LoadingView, rows_loaded, bytes_loaded, is_whole, AreOfNone, IsLoadingFault}
use Rattle.zpeers.specs.declared.fault.PeerFault.{PeerFault}
use Rattle.zpeers.specs.declared.fault.PeerFault.TheVariants as fault
use Rattle.zpeers.specs.declared.heard.Heard.{Heard}
use Rattle.zpeers.specs.declared.heard.Heard.TheVariants.{Whole, Begun}
use Rattle.zpeers.specs.Records.{TreeTransfer, state_of}
use Rattle.zpeers.specs.Incoming.{ArrivingView, HasNoState, IsNextOfNone}

-- what the message of a frame is
abbrev pub IsHeard : Bare → Heard → Type 0
IsHeard it (Whole m) = (it ≡ bare m) × HasNoState m
IsHeard it (Begun epoch) = it ≡ Snapshot epoch tt

-- these bytes are the message of a frame between these processes, and what it is
abbrev pub IsHeardFrame : Process → Process → List ℕ → Heard → Type 0
IsHeardFrame own from bytes h =
    (it : Bare) × (whole contents bytes ≡ Ok (record { sender = from; receiver = own; message = it })) ×
    IsHeard it h

-- the fault of a row
abbrev pub IsRowRefused : LoadingView → List ℕ → PeerFault → Type 0
IsRowRefused l bytes (fault.Row it) = IsLoadingFault l bytes it × IsNextOfNone l bytes
IsRowRefused l bytes fault.Memory = Unit {0}
IsRowRefused l bytes other = ⊥

-- the message of a snapshot whose rows all came
abbrev pub IsFinished : ArrivingView → TreeMessage → Type 0
IsFinished a m =
    (t : TreeTransfer) × (m ≡ Snapshot a.epoch t) × (rows_of (state_of t) ≡ rows_loaded a.rows) ×
    IsReadable (state_of t)

-- whether all rows came of what is being loaded
abbrev pub IsWholeIn : Option ArrivingView → Bool → Type 0
IsWholeIn None b = ⊥
IsWholeIn (Some a) b = (b ≡ is_whole a.rows) × (IsFalse b → AreOfNone (bytes_loaded a.rows))
