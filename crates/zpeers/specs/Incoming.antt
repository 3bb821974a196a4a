-- What comes from other processes: the records of each sender are taken in order. A state is
-- loaded row by row, and its message is whole at the end.
use Rattle.std.specs.Prelude.{◌≡◌, ◌≢◌, ℕ, ◌<◌, ◌≤◌, false, List, [], ◌∷◌, ◌++◌, map, length, slice_index_or, Option, None, Some, Ok, Err}
use Rattle.zcodec.specs.Choices.{sized}
use Rattle.zcodec.specs.Readers.{whole}
use Rattle.zops.specs.Machine.{MachineState}
use Rattle.zprotocol.specs.declared.message.Message.TheVariants.{Snapshot}
use Rattle.zprotocol.specs.declared.process.Process.{Process}
use Rattle.zprotocol.specs.Places.{place_of}
use Rattle.zserver.specs.Server.{TreeMessage}
use Rattle.zwire.specs.declared.frame.Frame.{Frame}
use Rattle.zwire.specs.declared.limits.TheConstants.{MAX_FRAME}
use Rattle.zwire.specs.Frames.{contents}
use Rattle.zwire.specs.Messages.{Bare, bare}
use Rattle.zsnapshots.specs.States.{IsReadable, spelled, rows_of}
use Rattle.zsnapshots.specs.Loading.{LoadingView, nothing_loaded, rows_loaded, bytes_loaded, is_whole, AreOfNone, IsLoaded, IsLoadingFault}
use Rattle.zpeers.specs.declared.fault.PeerFault.{PeerFault}
use Rattle.zpeers.specs.declared.fault.PeerFault.TheVariants as fault
use Rattle.zpeers.specs.declared.tags.TheConstants.{FRAME, ROW, END}
use Rattle.zpeers.specs.Records.{LinkRecord, TreeTransfer, end_record, state_of}

-- a snapshot whose state is being loaded: its epoch, and the rows that came
pub record ArrivingView : Type 0 where
  pub epoch : ℕ
  pub rows : LoadingView

-- what is being loaded of each sender, in the order of senders
pub record IncomingView : Type 0 where
  pub slots : List (Option ArrivingView)

-- what is being loaded of a sender
abbrev pub arriving_from : IncomingView → Process → Option ArrivingView
arriving_from i from = slice_index_or i.slots (place_of from) None

-- nothing has changed for the other senders
abbrev pub OthersArrive : IncomingView → IncomingView → Process → Type 0
OthersArrive old new from = (p : Process) → p ≢ from → arriving_from new p ≡ arriving_from old p

-- ---- a record is accepted

-- it is the frame of this message, whose state, if it has one, comes after it
abbrev pub IsFrame : Process → Process → LinkRecord → Bare → Type 0
IsFrame own from r m =
    (r.tag ≡ FRAME) × (whole contents r.bytes ≡ Ok (record { sender = from; receiver = own; message = m }))

-- a message without a state
abbrev pub HasNoState : TreeMessage → Type 0
HasNoState (Snapshot epoch t) = ⊥
HasNoState m = Unit {0}

-- a row with its length, as it is loaded
abbrev pub row_bytes : LinkRecord → List ℕ
row_bytes r = (sized MAX_FRAME).spell r.bytes

-- What is being loaded of the sender before and after a record, and the message that is whole by
-- it. While nothing is loaded, the record is a frame: a message that is whole, or a snapshot whose
-- state follows. Else it is the next row; or it is the end, and all rows came.
abbrev pub Accepts : Process → Process → LinkRecord → Option ArrivingView → Option ArrivingView →
    Option TreeMessage → Type 0
Accepts own from r None new (Some m) =
    IsFrame own from r (bare m) × HasNoState m × (new ≡ None)
Accepts own from r None new None =
    (epoch : ℕ) × IsFrame own from r (Snapshot epoch tt) ×
    (new ≡ Some (record { epoch = epoch; rows = nothing_loaded }))
Accepts own from r (Some a) new None =
    (rows : LoadingView) × (r.tag ≡ ROW) ×
    IsLoaded (rows_loaded a.rows) (rows_loaded rows) (row_bytes r) ×
    (new ≡ Some (record { epoch = a.epoch; rows = rows }))
Accepts own from r (Some a) new (Some m) =
    (t : TreeTransfer) × (r ≡ end_record) × (m ≡ Snapshot a.epoch t) ×
    (rows_of (state_of t) ≡ rows_loaded a.rows) × IsReadable (state_of t) × (new ≡ None)

-- ---- a record is refused

-- while nothing is loaded, the record has a frame's tag; and this of its bytes
abbrev pub OfFrame : Option ArrivingView → LinkRecord → Type 0 → Type 0
OfFrame loaded r it = (loaded ≡ None) × (r.tag ≡ FRAME) × it

-- while a state is loaded, the record has this tag; and this of what was loaded
abbrev pub OfLoaded : Option ArrivingView → LinkRecord → ℕ → (LoadingView → Type 0) → Type 0
OfLoaded None r tag it = ⊥
OfLoaded (Some a) r tag it = (r.tag ≡ tag) × it a.rows

-- no state that can be read has these bytes as its next row
abbrev pub IsNextOfNone : LoadingView → List ℕ → Type 0
IsNextOfNone l bytes =
    (s : MachineState) (rest : List (List ℕ)) → IsReadable s →
    map spelled (rows_of s) ≢ bytes_loaded l ++ bytes ∷ rest

-- the fault of a record that isn't too long
abbrev pub IsFaultAt : Process → Process → LinkRecord → Option ArrivingView → PeerFault → Type 0
IsFaultAt own from r loaded fault.TooLong = ⊥
IsFaultAt own from r loaded fault.NoTag = END < r.tag
IsFaultAt own from r loaded fault.RowsAwaited = (r.tag ≡ FRAME) × (loaded ≢ None)
IsFaultAt own from r loaded fault.NothingLoaded =
    (FRAME < r.tag) × (r.tag ≤ END) × (loaded ≡ None)
IsFaultAt own from r loaded (fault.Contents it) =
    OfFrame loaded r (whole contents r.bytes ≡ Err it)
IsFaultAt own from r loaded fault.OtherSender =
    OfFrame loaded r ((f : Frame) × (whole contents r.bytes ≡ Ok f) × (f.sender ≢ from))
IsFaultAt own from r loaded fault.OtherReceiver =
    OfFrame loaded r ((f : Frame) × (whole contents r.bytes ≡ Ok f) × (f.sender ≡ from) ×
    (f.receiver ≢ own))
IsFaultAt own from r loaded (fault.Row it) =
    OfLoaded loaded r ROW (λ l. IsLoadingFault l (row_bytes r) it × IsNextOfNone l (row_bytes r))
IsFaultAt own from r loaded fault.NotEmpty = OfLoaded loaded r END (λ l. r.bytes ≢ [])
IsFaultAt own from r loaded fault.Unfinished =
    OfLoaded loaded r END (λ l. (r.bytes ≡ []) × (is_whole l ≡ false) × AreOfNone (bytes_loaded l))
IsFaultAt own from r loaded fault.Memory = Unit {0}

-- why a record is refused
abbrev pub IsPeerFault : Process → Process → LinkRecord → Option ArrivingView → PeerFault → Type 0
IsPeerFault own from r loaded fault.TooLong = MAX_FRAME < length r.bytes
IsPeerFault own from r loaded it = (length r.bytes ≤ MAX_FRAME) × IsFaultAt own from r loaded it
