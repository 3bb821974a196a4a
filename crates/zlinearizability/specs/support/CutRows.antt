-- Worked runs in which channels lose their ends, over a machine that counts, with three servers and
-- two clients (0 and 1).
use Rattle.std.specs.Prelude.{ℕ, ◌&&◌, if◌then◌else◌, List, [], ◌∷◌, ◌++◌, map}
use Rattle.zprotocol.specs.declared.message.Message.TheVariants as message
use Rattle.zprotocol.specs.declared.process.Process.{Process}
use Rattle.zprotocol.specs.server.View.{MessageOf}
use Rattle.zprotocol.specs.declared.world.event.Event.{Event}
use Rattle.zprotocol.specs.declared.world.event.Event.TheVariants.{Begin, Take, Fail}
use Rattle.zprotocol.specs.world.History.{History}
use Rattle.zprotocol.specs.world.Links.{Links, is_same}
use Rattle.zprotocol.specs.world.World.{World, opening_world}
use Rattle.zprotocol.specs.world.support.Counter.{Counting, counting_machine, create}
use Rattle.zprotocol.specs.world.support.RunRows.{m, s1, s2, s3, c0, c1, began, reported}
use Rattle.zlinearizability.specs.Cuts.{Stays, run_with_cuts}

-- this many messages remain on each channel
abbrev pub each : ℕ → Stays
each n from to = n

-- this many remain on one, and all on the others
abbrev pub on : Process → Process → ℕ → Stays
on sender taker n from to = if is_same from sender && is_same to taker then n else 9

-- three messages, and channels that have them in flight
abbrev pub three : List (MessageOf Counting)
three = message.Ack 0 1 ∷ message.Ack 0 2 ∷ message.Ack 0 3 ∷ []

abbrev pub three_each : Links Counting
three_each from to = three

-- events before which nothing is lost
abbrev pub uncut : List Event → List (Stays × Event)
uncut events = map (λ event. (each 9, event)) events

-- the world after a run
abbrev pub after_cuts : List (Stays × Event) → World Counting
after_cuts steps = run_with_cuts counting_machine (opening_world counting_machine 3 2) steps

-- what callers saw of it
abbrev pub seen_with_cuts : List (Stays × Event) → History
seen_with_cuts steps = (after_cuts steps).history

-- client 1's request is lost before the head receives it; and it is sent when all channels are cut
abbrev pub request_cut : List (Stays × Event)
request_cut = uncut (Begin 1 create ∷ []) ++ (each 0, Take c1 s1) ∷ []

abbrev pub cut_then_begun : List (Stays × Event)
cut_then_begun = (each 0, Begin 1 create) ∷ []

-- the head fails, and what it had sent is lost: s2 is the head, and client 1 asks it again
abbrev pub head_fails_with_what_it_sent : List (Stays × Event)
head_fails_with_what_it_sent =
    uncut (Begin 1 create ∷ Take c1 s1 ∷ [])
    ++ (each 0, Fail 1)
    ∷ uncut (Take s1 m ∷ Take m s2 ∷ Take m c1 ∷ Take c1 s2 ∷ Take s2 s3 ∷ Take s3 c1 ∷ [])

-- the connection from the head breaks: of two updates on it the first arrives
abbrev pub second_update_cut : List (Stays × Event)
second_update_cut =
    uncut (Begin 0 create ∷ Begin 1 create ∷ Take c0 s1 ∷ Take c1 s1 ∷ [])
    ++ (on s1 s2 1, Take s1 s2)
    ∷ uncut (Take s1 s2 ∷ Take s2 s3 ∷ Take s2 s3 ∷ Take s3 c0 ∷ Take s3 c1 ∷ [])

-- then all channels but the master's are cut, while its order to the new head is in flight
abbrev pub order_stays : List (Stays × Event)
order_stays = uncut (Fail 1 ∷ Take s1 m ∷ []) ++ (each 0, Take m s2) ∷ []

-- what callers see of the two updates
abbrev pub first_answered : History
first_answered = began 0 1 ∷ began 1 1 ∷ reported 0 1 0 ∷ []
