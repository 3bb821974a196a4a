-- Worked runs of settling, and of resolved events, over a machine that counts, with two clients (0
-- and 1).
use Rattle.std.specs.Prelude.{ℕ, ◌≡◌, Bool, List, [], ◌∷◌, ◌++◌}
use Rattle.zprotocol.specs.declared.world.event.Event.{Event}
use Rattle.zprotocol.specs.declared.world.event.Event.TheVariants.{Begin, Retry, Take, Ignore, Fail}
use Rattle.zprotocol.specs.world.Orders.{Join}
use Rattle.zprotocol.specs.world.World.{opening_world}
use Rattle.zprotocol.specs.declared.world.outcome.Outcome.{Outcome}
use Rattle.zprotocol.specs.world.History.{History}
use Rattle.zprotocol.specs.world.Reading.{is_fitting, read_all}
use Rattle.zprotocol.specs.world.Settle.{Settling, settle}
use Rattle.zprotocol.specs.world.support.Counter.{Counting, counting_machine, create, exists}
use Rattle.zprotocol.specs.world.support.RunRows.{after, m, s1, s2, s3, c0, c1}

-- settling after events, with a limit, and the outcomes of its events
abbrev pub settled_after : ℕ → List Event → ℕ → List Outcome → Settling Counting
settled_after servers events limit outcomes = settle counting_machine (after servers events) limit outcomes

-- the history that it leaves where every process acts, and the events that it does
abbrev pub settled_history : ℕ → List Event → History
settled_history servers events = (settled_after servers events 100 []).world.history

abbrev pub settled_events : ℕ → List Event → List Outcome → List Event
settled_events servers events outcomes = (settled_after servers events 100 outcomes).events

-- whether an outcome fits an event, after events
abbrev pub fits_after : ℕ → List Event → Event → Outcome → Bool
fits_after servers events event outcome = is_fitting counting_machine (after servers events) event outcome

-- the events from the initial world, resolved by their outcomes
abbrev pub read_after : ℕ → List Event → List Outcome → List Event
read_after servers events outcomes = read_all counting_machine (opening_world counting_machine servers 2) events outcomes

-- events that resolve to themselves, whatever outcomes are given
abbrev pub StayThemselves : ℕ → List Event → List Outcome → Type 0
StayThemselves servers events outcomes = read_after servers events outcomes ≡ events

-- two clients invoke an update each
abbrev pub two_begin : List Event
two_begin = Begin 0 create ∷ Begin 1 create ∷ []

-- how that settles on three servers: what is sent earlier in a pass can be delivered in it, and
-- each channel gives one message
abbrev pub two_settle : List Event
two_settle =
    Take c0 s1
    ∷ Take c1 s1
    ∷ Take s1 s2
    ∷ Take s2 s3
    ∷ Take s3 s2
    ∷ Take s3 c0
    ∷ Take s1 s2
    ∷ Take s2 s1
    ∷ Take s2 s3
    ∷ Take s3 s2
    ∷ Take s3 c1
    ∷ Take s2 s1
    ∷ []

-- a request is lost, and settling asks again
abbrev pub lost_request : List Event
lost_request = Begin 1 create ∷ Ignore c1 s1 ∷ []

abbrev pub asked_again : List Event
asked_again = Retry 1 ∷ Take c1 s1 ∷ Take s1 c1 ∷ []

-- a query is lost
abbrev pub lost_query : List Event
lost_query = Begin 1 exists ∷ Ignore c1 s1 ∷ []

-- the only server has failed: the master learns of it and notifies both clients, and client 1 has
-- no server to ask again
abbrev pub news_and_retry : List Event
news_and_retry = Take s1 m ∷ Take m c0 ∷ Take m c1 ∷ Retry 1 ∷ []

-- the state is lost with its only server, while another one joins; then a client asks
abbrev pub lost_state : List Event
lost_state = Join 2 ∷ Fail 1 ∷ Begin 1 exists ∷ []

-- the head of two servers fails, and the master sends the other one a message, which it receives
abbrev pub new_head : List Event
new_head = Fail 1 ∷ Take s1 m ∷ []

abbrev pub new_head_reported : List Event
new_head_reported = new_head ++ Take m s2 ∷ []

-- a server joins after the only one, which is no tail any more when a client's query reaches it
abbrev pub query_at_old_tail : List Event
query_at_old_tail = Join 2 ∷ Take m s2 ∷ Take s2 m ∷ Take m s1 ∷ Begin 1 exists ∷ []
