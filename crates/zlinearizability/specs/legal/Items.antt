-- The items of a run: the calls in the order in which they took effect, each with its reply and
-- with the length of the history at that time. A list of items with the properties below makes a
-- legal order.
use Rattle.std.specs.Prelude.{◌≡◌, ℕ, ◌+◌, ◌≤◌, Bool, true, false, List, [], ◌∷◌, map, length, take, drop, if◌then◌else◌}
use Rattle.zcalls.specs.declared.call.Call.{Call}
use Rattle.zcalls.specs.declared.call.Call.TheVariants.{Update, Query}
use Rattle.zcalls.specs.declared.call.Entry.{Entry}
use Rattle.zcalls.specs.declared.reply.Reply.{Reply}
use Rattle.zcalls.specs.Lists.{Among, NoTwo}
use Rattle.zcalls.specs.Operation.{Operation, operation_of}
use Rattle.zcalls.specs.Cached.{Plain}
use Rattle.zcalls.specs.Acts.{after_log, acts_of, acts_from}
use Rattle.zprotocol.specs.client.View.{ClientView}
use Rattle.zprotocol.specs.declared.world.history.CallEvent.{CallEvent}
use Rattle.zprotocol.specs.declared.world.history.CallEvent.TheVariants.{Begin, Answer}
use Rattle.zprotocol.specs.world.History.{History, HasBegun}
use Rattle.zprotocol.specs.world.LegalOrder.{Service, operation_step}
use Rattle.zlinearizability.specs.legal.Prefix.{Pairwise}

-- a call that took effect
pub record Item : Type 0 where
  pub operation : Operation
  pub reply : Reply
  pub time : ℕ

-- a call and its reply, as it took effect when the history had this length
abbrev pub at_time : ℕ → Operation × Reply → Item
at_time time did = record { operation = did.0; reply = did.1; time = time }

-- calls and replies, as they took effect when the history had this length
abbrev pub all_at_time : ℕ → List (Operation × Reply) → List Item
all_at_time time dids = map (at_time time) dids

-- the call is an update
abbrev pub is_update : Call → Bool
is_update (Update update) = true
is_update (Query query) = false

-- the updates of the list, with their replies
abbrev pub updates_of : List Item → List (Operation × Reply)
updates_of [] = []
updates_of (i ∷ is) = if is_update i.operation.call then (i.operation, i.reply) ∷ updates_of is else updates_of is

-- the service, call after call from a state, gives each item its reply
abbrev pub Replays : {P : Type 0} → Service P → P → List Item → Type 0
Replays service p [] = Unit {0}
Replays service p (i ∷ is) = ((operation_step service p i.operation).1 ≡ i.reply) × Replays service (operation_step service p i.operation).0 is

-- an item of this call with this reply
abbrev pub IsItemOf : ℕ → ℕ → Reply → Item → Type 0
IsItemOf client number reply i = (i.operation.client ≡ client) × (i.operation.number ≡ number) × (i.reply ≡ reply)

-- the list has an item of this call with this reply
abbrev pub IsGiven : List Item → ℕ → ℕ → Reply → Type 0
IsGiven items client number reply = (i : Item) × Among i items × IsItemOf client number reply i

-- the list has an item of this call with this reply, no later than this
abbrev pub IsGivenBy : List Item → ℕ → ℕ → ℕ → Reply → Type 0
IsGivenBy items time client number reply = (i : Item) × Among i items × IsItemOf client number reply i × (i.time ≤ time)

-- an event that is a response is that of an item, no later than this
abbrev pub IsAnsweredBy : List Item → ℕ → CallEvent → Type 0
IsAnsweredBy items time (Begin client number call) = Unit {0}
IsAnsweredBy items time (Answer client number reply) = IsGivenBy items time client number reply

-- each response of a history is that of an item. The item is no later than the events before the
-- response: this many, and those of the history itself
abbrev pub AreAnsweredInTime : List Item → ℕ → History → Type 0
AreAnsweredInTime items before [] = Unit {0}
AreAnsweredInTime items before (event ∷ events) = IsAnsweredBy items before event × AreAnsweredInTime items (before + 1) events

-- both invoke one call, or both answer one
abbrev pub IsSameEvent : CallEvent → CallEvent → Type 0
IsSameEvent (Begin c n call) (Begin d m other) = (c ≡ d) × (n ≡ m)
IsSameEvent (Answer c n reply) (Answer d m other) = (c ≡ d) × (n ≡ m)
IsSameEvent event other = ⊥

-- the updates of the list are the entries of the committed log that acted, in order
abbrev pub AreCommitted : {P : Type 0} → Plain P → List Entry → List Item → Type 0
AreCommitted plain committed items = updates_of items ≡ acts_of plain committed

-- along the list the times don't fall
abbrev pub TimesRise : List Item → Type 0
TimesRise items = Pairwise (λ i j. i.time ≤ j.time) items

-- each item's time is after the invocation of its call, and is no later than now
abbrev pub AreBegunInTime : History → List Item → Type 0
AreBegunInTime history items =
    (i : Item) → Among i items → (i.time ≤ length history) × HasBegun (take i.time history) i.operation

-- no call is invoked twice, and none is answered twice
abbrev pub EventsDiffer : History → Type 0
EventsDiffer history = NoTwo IsSameEvent history

-- a call that was invoked has a number up to the client's
abbrev pub AreNumbered : (ℕ → ClientView) → History → Type 0
AreNumbered clients history = (o : Operation) → HasBegun history o → o.number ≤ (clients o.client).number

-- each entry is a call that was invoked
abbrev pub AllBegun : History → List Entry → Type 0
AllBegun history log = (e : Entry) → Among e log → HasBegun history (operation_of e)

-- the items of the entries that acted when one committed log grew to another
abbrev pub new_items : {P : Type 0} → Plain P → ℕ → List Entry → List Entry → List Item
new_items plain time old new = all_at_time time (acts_from plain.update (after_log plain old) (drop (length old) new))
