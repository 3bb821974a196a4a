-- What a clause says of the two ends of the console's channel.
use Rattle.std.specs.Prelude.{◌≡◌, ℕ, List}
use Rattle.crossbeam_channel.specs.Claims.{view}
use Rattle.crossbeam_channel.specs.Ends.{receives_on, ruled_capacity, sends_on}
use Rattle.zchannels.specs.Rings as ring
use Rattle.zprotocol.specs.declared.master.order.Order.{Order}
use Rattle.zchannels.specs.declared.outcome.OrderOutcome.{OrderOutcome}
use Rattle.zchannels.specs.declared.console.Console.{Console}
use Rattle.zchannels.specs.declared.console.Inbox.{Inbox}

-- what was ordered, oldest first
abbrev pub ordered : Console → List Order
ordered c = (view c.pass).put

-- what was received, oldest first
abbrev pub taken_of : Inbox → List Order
taken_of i = (view i.pass).taken

-- the outcomes that the master sent, oldest first
abbrev pub said : Inbox → List OrderOutcome
said i = ring.put_of i.outcomes

-- the outcomes that were returned to the console's owner, oldest first
abbrev pub heard : Console → List OrderOutcome
heard c = ring.taken_of c.outcomes

-- an outcome waits only for room
abbrev pub IsFlushed : Inbox → Type 0
IsFlushed i = ring.IsFlushed i.outcomes

-- they are the two ends of one channel, and of one ring
abbrev pub AreEnds : Console → Inbox → Type 0
AreEnds c i = (receives_on i.from ≡ sends_on c.to) × ring.AreEnds i.outcomes c.outcomes

-- it is an end of the same channel, and of the same ring
abbrev pub IsSameConsole : Console → Console → Type 0
IsSameConsole a b = (sends_on b.to ≡ sends_on a.to) × (ring.ring_of_rx b.outcomes ≡ ring.ring_of_rx a.outcomes)

abbrev pub IsSameInbox : Inbox → Inbox → Type 0
IsSameInbox a b = (receives_on b.from ≡ receives_on a.from) × (ring.ring_of_tx b.outcomes ≡ ring.ring_of_tx a.outcomes)

-- how many orders the channel has room for
abbrev pub room_of : Console → ℕ
room_of c = ruled_capacity (sends_on c.to)
