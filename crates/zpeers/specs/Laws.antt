-- Laws of the definitions: what one process sends to another comes whole, in order and once.
use Rattle.std.specs.Prelude.{◌≡◌, List, [], ◌∷◌, ◌++◌, map, Option, None, Some, if◌then◌else◌}
use Rattle.std.specs.List.{AllByRecursion, flat_map}
use Rattle.zprotocol.specs.declared.message.Message.TheVariants.{Snapshot}
use Rattle.zprotocol.specs.declared.process.Process.{Process}
use Rattle.zprotocol.specs.world.Links.{is_same}
use Rattle.zserver.specs.Server.{TreeMessage}
use Rattle.zwire.specs.Frames.{frame, frame_of}
use Rattle.zsnapshots.specs.States.{IsReadable}
use Rattle.zpeers.specs.declared.fault.PeerFault.{PeerFault}
use Rattle.zpeers.specs.declared.fault.PeerFault.TheVariants.{Memory}
use Rattle.zpeers.specs.Records.{LinkRecord, state_of, after_frame, records_of}
use Rattle.zpeers.specs.Outgoing.{OutgoingView, records_for, OthersWait}
use Rattle.zpeers.specs.Incoming.{ArrivingView, Accepts, IsPeerFault}

-- ---- the records of messages, taken one by one

-- its frame fits, and its state, if it has one, can be read
abbrev pub HasReadableState : TreeMessage → Type 0
HasReadableState (Snapshot epoch t) = IsReadable (state_of t)
HasReadableState m = Unit {0}

pub record CanBeSent (own to : Process) (m : TreeMessage) : Type 0 where
  pub fits : frame.Fits (frame_of own to m)
  pub state : HasReadableState m

-- these records of a sender are accepted one after the other, and each gives this
abbrev pub AcceptsAll : Process → Process → List LinkRecord → Option ArrivingView →
    Option ArrivingView → List (Option TreeMessage) → Type 0
AcceptsAll own from [] old new given = (new ≡ old) × (given ≡ [])
AcceptsAll own from (r ∷ rs) old new given =
    (next : Option ArrivingView) × (it : Option TreeMessage) × (more : List (Option TreeMessage)) ×
    Accepts own from r old next it × AcceptsAll own from rs next new more × (given ≡ it ∷ more)

-- nothing but at the last record of the message
abbrev pub given_by : TreeMessage → List (Option TreeMessage)
given_by m = map (λ _. None) (after_frame m) ++ Some m ∷ []

-- the records of messages give exactly these messages, each at its last record
abbrev pub MessagesComeWhole : Type 0
MessagesComeWhole =
    (own from : Process) (ms : List TreeMessage) (new : Option ArrivingView)
    (given : List (Option TreeMessage)) → AllByRecursion (CanBeSent from own) ms →
    AcceptsAll own from (flat_map (records_of from own) ms) None new given →
    (given ≡ flat_map given_by ms) × (new ≡ None)

-- none of their records is refused, unless memory runs out
abbrev pub NoneIsRefused : Type 0
NoneIsRefused =
    (own from : Process) (ms : List TreeMessage) (front back : List LinkRecord) (r : LinkRecord)
    (loaded : Option ArrivingView) (given : List (Option TreeMessage)) (fault : PeerFault) →
    AllByRecursion (CanBeSent from own) ms →
    flat_map (records_of from own) ms ≡ front ++ r ∷ back →
    AcceptsAll own from front None loaded given → IsPeerFault own from r loaded fault →
    fault ≡ Memory

-- ---- queues

-- a message is put into the queue of a receiver; or the first record that waits for it is written
pub data Step : Type 0 where
  Put : Process → TreeMessage → Step
  Write : Process → LinkRecord → Step

abbrev pub Happens : Process → Step → OutgoingView → OutgoingView → Type 0
Happens own (Put to m) old new =
    (records_for new own to ≡ records_for old own to ++ records_of own to m) × OthersWait old new to
Happens own (Write to r) old new =
    (records_for old own to ≡ r ∷ records_for new own to) × OthersWait old new to

-- these happen one after the other
abbrev pub HappenAll : Process → List Step → OutgoingView → OutgoingView → Type 0
HappenAll own [] old new = new ≡ old
HappenAll own (step ∷ steps) old new =
    (next : OutgoingView) × Happens own step old next × HappenAll own steps next new

-- the messages that were put for a receiver, in order
abbrev pub put_by : Process → Step → List TreeMessage
put_by to (Put other m) = if is_same other to then m ∷ [] else []
put_by to (Write other r) = []

abbrev pub messages_put : Process → List Step → List TreeMessage
messages_put to = flat_map (put_by to)

-- the records that were written for it, in order
abbrev pub written_by : Process → Step → List LinkRecord
written_by to (Put other m) = []
written_by to (Write other r) = if is_same other to then r ∷ [] else []

abbrev pub records_written : Process → List Step → List LinkRecord
records_written to = flat_map (written_by to)

-- For each receiver, what was written and then what waits is what waited and then the records of
-- the messages put, in order.
abbrev pub QueuesKeepOrder : Type 0
QueuesKeepOrder =
    (own to : Process) (steps : List Step) (old new : OutgoingView) → HappenAll own steps old new →
    records_for old own to ++ flat_map (records_of own to) (messages_put to steps)
    ≡ records_written to steps ++ records_for new own to
