-- Worked runs of a chain in which no server fails, over a machine that counts, with two clients (0
-- and 1).
use Rattle.std.specs.Prelude.{ℕ, ◌≡◌, true, false, Some, List, [], ◌∷◌, ◌++◌, take}
use Rattle.zcalls.specs.declared.call.Entry.{Entry}
use Rattle.zprotocol.specs.declared.message.Message.TheVariants as message
use Rattle.zprotocol.specs.declared.process.Process.{Process}
use Rattle.zprotocol.specs.declared.process.Process.TheVariants.{Master, Server, Client}
use Rattle.zprotocol.specs.server.View.{ServerView, MessageOf}
use Rattle.zprotocol.specs.declared.world.event.Event.{Event}
use Rattle.zprotocol.specs.declared.world.event.Event.TheVariants.{Begin, Retry, Take}
use Rattle.zprotocol.specs.declared.world.history.CallEvent.TheVariants as saw
use Rattle.zprotocol.specs.declared.world.history.CallEvent.{CallEvent}
use Rattle.zprotocol.specs.world.History.{History}
use Rattle.zprotocol.specs.world.World.{World, opening_world}
use Rattle.zprotocol.specs.world.Events.{is_enabled, run}
use Rattle.zprotocol.specs.world.support.Counter.{Counting, counting_machine, create_update, create, exists, name_reply, count_reply}

-- the processes: the master, servers and clients
abbrev pub m : Process
m = Master

abbrev pub s1 : Process
s1 = Server 1

abbrev pub s2 : Process
s2 = Server 2

abbrev pub s3 : Process
s3 = Server 3

abbrev pub s4 : Process
s4 = Server 4

abbrev pub c0 : Process
c0 = Client 0

abbrev pub c1 : Process
c1 = Client 1

-- the world after events, from the initial world with this many servers
abbrev pub after : ℕ → List Event → World Counting
after servers events = run counting_machine (opening_world counting_machine servers 2) events

-- what callers saw of them
abbrev pub seen : ℕ → List Event → History
seen servers events = (after servers events).history

-- what they left on a channel
abbrev pub link : ℕ → List Event → Process → Process → List (MessageOf Counting)
link servers events from to = (after servers events).links from to

-- what they left a server with
abbrev pub view : ℕ → List Event → ℕ → ServerView Counting
view servers events s = (after servers events).servers s

-- an event is enabled after them, or it isn't
abbrev pub CanHappen : ℕ → List Event → Event → Type 0
CanHappen servers events event = is_enabled (after servers events) event ≡ true

abbrev pub CannotHappen : ℕ → List Event → Event → Type 0
CannotHappen servers events event = is_enabled (after servers events) event ≡ false

-- the entry of client 1's first call, and that of client 0's
abbrev pub first_entry : Entry
first_entry = record { client = 1; number = 1; update = create_update }

abbrev pub other_entry : Entry
other_entry = record { client = 0; number = 1; update = create_update }

-- a client invokes an update, its call of this number; and receives the name that this one made
abbrev pub began : ℕ → ℕ → CallEvent
began client number = saw.Begin client number create

abbrev pub reported : ℕ → ℕ → ℕ → CallEvent
reported client number name = saw.Answer client number (name_reply name)

-- what callers see of client 1's calls: one update, two of them, and an update and then a query
abbrev pub one_create : History
one_create = began 1 1 ∷ reported 1 1 0 ∷ []

abbrev pub two_creates : History
two_creates = began 1 1 ∷ reported 1 1 0 ∷ began 1 2 ∷ reported 1 2 1 ∷ []

abbrev pub create_and_exists : History
create_and_exists = began 1 1 ∷ reported 1 1 0 ∷ saw.Begin 1 2 exists ∷ saw.Answer 1 2 (count_reply 1) ∷ []

-- its request of that update on a channel, and two answers to it
abbrev pub request : List (MessageOf Counting)
request = message.Submit 1 create_update ∷ []

abbrev pub two_answers : List (MessageOf Counting)
two_answers = message.Answer 1 (name_reply 0) ∷ message.Answer 1 (name_reply 0) ∷ []

-- the chain's ends, as the master sends them to a client
abbrev pub config : ℕ → ℕ → ℕ → List (MessageOf Counting)
config epoch head tail = message.Config epoch (Some head) (Some tail) ∷ []

-- client 1 invokes an update, its request is delivered, and so is the answer of an only server; or
-- it invokes a query
abbrev pub create_begun : List Event
create_begun = Begin 1 create ∷ []

abbrev pub create_taken : List Event
create_taken = Begin 1 create ∷ Take c1 s1 ∷ []

abbrev pub create_answered : List Event
create_answered = Begin 1 create ∷ Take c1 s1 ∷ Take s1 c1 ∷ []

abbrev pub exists_begun : List Event
exists_begun = Begin 1 exists ∷ []

abbrev pub exists_taken : List Event
exists_taken = Begin 1 exists ∷ Take c1 s1 ∷ []

-- an update goes down the chain, the tail answers it, and its acknowledgement goes up
abbrev pub update_in_turn : List Event
update_in_turn =
    Begin 1 create
    ∷ Take c1 s1
    ∷ Take s1 s2
    ∷ Take s2 s3
    ∷ Take s3 c1
    ∷ Take s3 s2
    ∷ Take s2 s1
    ∷ []

-- two clients' updates go down the chain, one after the other
abbrev pub two_updates : List Event
two_updates =
    Begin 0 create
    ∷ Begin 1 create
    ∷ Take c0 s1
    ∷ Take c1 s1
    ∷ Take s1 s2
    ∷ Take s1 s2
    ∷ Take s2 s3
    ∷ Take s2 s3
    ∷ Take s3 c1
    ∷ Take s3 c0
    ∷ []

-- both on the channel from the head, client 0's first
abbrev pub other_then_first : List (MessageOf Counting)
other_then_first = message.Update 0 1 other_entry ∷ message.Update 0 2 first_entry ∷ []

-- an update arrives twice, since its client sends it again; then the client makes another
abbrev pub retried_update : List Event
retried_update =
    Begin 1 create
    ∷ Take c1 s1
    ∷ Retry 1
    ∷ Take c1 s1
    ∷ Take s1 s2
    ∷ Take s1 s2
    ∷ Take s2 c1
    ∷ Take s2 c1
    ∷ Begin 1 create
    ∷ Take c1 s1
    ∷ Take s1 s2
    ∷ Take s2 c1
    ∷ []

-- the same, where the second answer is delivered when the client has invoked the other
abbrev pub late_answer : List Event
late_answer = take 7 retried_update ++ Begin 1 create ∷ Take s2 c1 ∷ []
