-- What holds of every run of the log world: the invariants of the chain.
use Rattle.std.specs.Prelude.{◌≡◌, ℕ, true, false, Some, List, [], is_none}
use Rattle.zcalls.specs.declared.call.Call.{Call}
use Rattle.zcalls.specs.declared.call.Entry.{Entry}
use Rattle.zcalls.specs.declared.reply.Reply.{Reply}
use Rattle.zcalls.specs.Lists.{Among, ComesBefore, NoTwo}
use Rattle.zcalls.specs.Cached.{Plain}
use Rattle.zprotocol.specs.declared.process.Process.{Process}
use Rattle.zprotocol.specs.server.View.{spare}
use Rattle.zprotocol.specs.master.View.{members}
use Rattle.zprotocol.specs.declared.world.history.CallEvent.TheVariants.{Answer}
use Rattle.zprotocol.specs.world.History.{HasBegun}
use Rattle.zprotocol.specs.world.Links.{Links}
use Rattle.zprotocol.specs.world.PlainTree.{service_of}
use Rattle.zlinearizability.specs.legal.Prefix.{IsPrefix, IsEntry}
use Rattle.zlinearizability.specs.legal.Items.{Item, Replays, AreCommitted, TimesRise, AreBegunInTime, AreAnsweredInTime, EventsDiffer, AreNumbered, AllBegun}
use Rattle.zlinearizability.specs.chain.Flow.{LogWorld, log_at, first_log}
use Rattle.zlinearizability.specs.chain.Chain.{queue, IsUsed, IsMember, Place, place_in_chain, IsPast, LeadsTo, is_fresh, IsOpened, HasNoTailOrderBehind, HasDistinctEpochs, IsBehind}
use Rattle.zlinearizability.specs.chain.Messages.{IsJustified}
use Rattle.zlinearizability.specs.chain.Account.{Account}

-- the members are distinct
abbrev pub AreDistinct : LogWorld → Type 0
AreDistinct w = NoTwo (λ (s t : ℕ). s ≡ t) (members w.master)

-- each member's number was used
abbrev pub MembersAreUsed : LogWorld → Type 0
MembersAreUsed w = (s : ℕ) → IsMember w s → IsUsed w s

-- a server whose number wasn't used has nothing, and nothing from the master is in flight to it
abbrev pub UnusedAreBlank : LogWorld → Type 0
UnusedAreBlank w = (s : ℕ) → (IsUsed w s → ⊥) → (w.servers s ≡ spare) × (queue w s ≡ [])

-- a server that was used and hasn't failed is a member
abbrev pub LiveAreMembers : LogWorld → Type 0
LiveAreMembers w = (s : ℕ) → IsUsed w s → w.failed s ≡ false → IsMember w s

-- a member's orders lead from its predecessor to the one that the master knows
abbrev pub OrdersLead : LogWorld → Type 0
OrdersLead w = (s : ℕ) (place : Place) → place_in_chain w s ≡ Some place → LeadsTo (IsPast w) (is_fresh w s) (w.servers s).pred (queue w s) place

-- a server that is another's successor has received the epoch of the pair
abbrev pub SuccessorsAreOpened : LogWorld → Type 0
SuccessorsAreOpened w = (s t k : ℕ) → (w.servers s).succ ≡ Some (t, k) → IsOpened w t k

-- the epochs of the new predecessors in flight to one server differ, and none is above the master's
abbrev pub EpochsAreDistinct : LogWorld → Type 0
EpochsAreDistinct w = (s : ℕ) → HasDistinctEpochs w.master.epoch (queue w s)

-- after an order of a successor that still holds, there is none to become the tail
abbrev pub TailOrdersAreLast : LogWorld → Type 0
TailOrdersAreLast w = (s : ℕ) → HasNoTailOrderBehind w s (queue w s)

-- of two members, the one nearer to the head has all that the other has or could still receive
abbrev pub ChainIsOrdered : LogWorld → Type 0
ChainIsOrdered w = (x y : ℕ) → ComesBefore x y (members w.master) → IsBehind w x y

-- the committed log is a prefix of the first log that each member shows
abbrev pub AllShowCommitted : LogWorld → List Entry → Type 0
AllShowCommitted w committed = (s : ℕ) (log : List Entry) → IsMember w s → first_log w s ≡ Some log → IsPrefix committed log

-- a member with a log and without a successor has exactly the committed log
abbrev pub TailHoldsCommitted : LogWorld → List Entry → Type 0
TailHoldsCommitted w committed =
    (s : ℕ) (log : List Entry) → IsMember w s → log_at w s ≡ Some log → is_none (w.servers s).succ ≡ true → log ≡ committed

-- each entry of Sent is the entry of its number in the server's own log
abbrev pub SentIsLogged : LogWorld → Type 0
SentIsLogged w =
    (s : ℕ) (log : List Entry) (n : ℕ) (e : Entry) → log_at w s ≡ Some log → Among (n, e) (w.servers s).sent → IsEntry log n e

-- every entry of a log is a call that was invoked
abbrev pub LogsAreBegun : LogWorld → Type 0
LogsAreBegun w = (s : ℕ) (log : List Entry) → log_at w s ≡ Some log → AllBegun w.history log

-- a client's outstanding call was invoked, and isn't answered
abbrev pub WaitsAreOpen : LogWorld → Type 0
WaitsAreOpen w =
    (c n : ℕ) (call : Call) → (w.clients c).outstanding ≡ Some (n, call)
    → HasBegun w.history (record { client = c; number = n; call = call }) × ((reply : Reply) → Among (Answer c n reply) w.history → ⊥)

-- every message in flight is justified
abbrev pub AllAreJustified : LogWorld → List Item → Links (List Entry) → Type 0
AllAreJustified w items links = (from to : Process) → (m : _) → Among m (links from to) → IsJustified w items from to m

-- the invariants of a run: what holds of the log world, the committed log and the items after every
-- list of events
pub record IsSound {P : Type 0} (plain : Plain P) (t : Account) : Type 0 where
  -- the chain's members are distinct
  pub distinct : AreDistinct t.world
  -- each member's number was used
  pub used : MembersAreUsed t.world
  -- a server whose number wasn't used has nothing, and nothing from the master is in flight to it
  pub blank : UnusedAreBlank t.world
  -- a server that was used and hasn't failed is a member
  pub live : LiveAreMembers t.world
  -- the predecessor that a member has, and those that the master has sent it since, lead to the one
  -- that the master knows; all but the last are past
  pub line : OrdersLead t.world
  -- a server that is another's successor has received the epoch of the pair
  pub successors : SuccessorsAreOpened t.world
  -- the epochs of the new predecessors in flight to a server differ, and none is above the master's
  pub epochs : EpochsAreDistinct t.world
  -- after a NewSucc that still holds, no BecomeTail is in flight to the same server
  pub tail_orders : TailOrdersAreLast t.world
  -- Of two members, the one nearer to the head has all that the other has, or could still receive
  -- of what is in flight. It has a successor, and isn't about to become the tail
  pub ordered : ChainIsOrdered t.world
  -- the committed log is a prefix of every log, and of every first log that a joining member could
  -- receive
  pub committed : AllShowCommitted t.world t.committed
  -- a member with a log and without a successor has exactly the committed log
  pub tail : TailHoldsCommitted t.world t.committed
  -- each entry of Sent is the entry of that number in the server's own log
  pub sent : SentIsLogged t.world
  -- every entry of a log is a call that was invoked
  pub begun : LogsAreBegun t.world
  -- every entry of the committed log is a call that was invoked
  pub committed_begun : AllBegun t.world.history t.committed
  -- Every message in flight is justified. A request is a call that was invoked, and an answer is
  -- that of an item. A message of an epoch is in flight only once its receiver has received the
  -- epoch. A server that is reported as gone has failed
  pub justified : AllAreJustified t.world t.items t.world.links
  -- the updates among the items are the entries of the committed log that acted, in order
  pub acted : AreCommitted plain t.committed t.items
  -- the plain service, call after call from its initial state, gives each item its reply
  pub replays : Replays (service_of plain) plain.opening t.items
  -- along the items the times don't fall
  pub rising : TimesRise t.items
  -- an item is later than the invocation of its call
  pub in_time : AreBegunInTime t.world.history t.items
  -- a call that was answered has an item that is no later than the response
  pub answered : AreAnsweredInTime t.items 0 t.world.history
  -- no call is invoked twice, and none is answered twice
  pub once : EventsDiffer t.world.history
  -- a call that was invoked has a number up to its client's
  pub numbered : AreNumbered t.world.clients t.world.history
  -- a client's outstanding call was invoked, and isn't answered
  pub waits : WaitsAreOpen t.world

-- the later run is sound, and what was committed remains committed
abbrev pub IsSoundAfter : {P : Type 0} → Plain P → Account → Account → Type 0
IsSoundAfter plain t later = IsSound plain later × IsPrefix t.committed later.committed
