-- Worked runs of heads, over a machine that counts, with three servers.
use Rattle.std.specs.Prelude.{ℕ, ◌+◌, Some, List, [], ◌∷◌, ◌++◌, map}
use Rattle.zcalls.specs.declared.call.Call.TheVariants as call
use Rattle.zcalls.specs.declared.call.Update.{Update}
use Rattle.zcalls.specs.declared.call.Update.TheVariants as update
use Rattle.zcalls.specs.declared.call.Query.TheVariants as query
use Rattle.zcalls.specs.Cached.{Plain}
use Rattle.zprotocol.specs.declared.process.Process.{Process}
use Rattle.zprotocol.specs.declared.world.event.Event.TheVariants.{Take, Fail}
use Rattle.zprotocol.specs.world.support.Counter.{Counting, counting_machine, create_update, create, exists, name_reply, count_reply}
use Rattle.zprotocol.specs.world.support.RunRows.{m, s1, s2, s3}
use Rattle.zlinearizability.specs.Cuts.{Stays}
use Rattle.zlinearizability.specs.support.CutRows.{each, on}
use Rattle.zheads.specs.Heads.{Note, Seen, Begun, Acknowledged, Heads, HeadEvent, Append, Look, InChain, run_heads, opening_heads}
use Rattle.zheads.specs.OneLog.{IsOneLog}

-- the service that the machine stands in for: the reply to an update is the number of updates
-- before it, and the reply to a query is the number so far
abbrev pub counting : Plain ℕ
counting = record { opening = 0; update = λ count client update. (count + 1, name_reply count); ask = λ count query. count_reply count }

-- an update and a query at a head, a delivery and a failure
abbrev pub creates : ℕ → HeadEvent
creates s = Append s create_update

abbrev pub asks : ℕ → HeadEvent
asks s = Look s (query.Exists [])

abbrev pub takes : Process → Process → HeadEvent
takes from to = InChain (Take from to)

abbrev pub fails : ℕ → HeadEvent
fails s = InChain (Fail s)

-- events before which nothing is lost
abbrev pub uncut : List HeadEvent → List (Stays × HeadEvent)
uncut events = map (λ event. (each 9, event)) events

-- the heads after a run of this many servers, and what callers saw of it
abbrev pub heads : ℕ → List (Stays × HeadEvent) → Heads Counting
heads servers steps = run_heads counting_machine (opening_heads counting_machine servers) steps

abbrev pub callers_saw : ℕ → List (Stays × HeadEvent) → List Seen
callers_saw servers steps = (heads servers steps).seen

-- an update at a head at this place, and a query there after this many entries
abbrev pub made : ℕ → ℕ → Note
made s before = record { server = s; call = create; reply = Some (name_reply before); place = before + 1; need = before + 1 }

abbrev pub saw : ℕ → ℕ → Note
saw s before = record { server = s; call = exists; reply = Some (count_reply before); place = before; need = before + 1 }

-- an entry goes down the chain of three, and its acknowledgement comes back to the head
abbrev pub down : List HeadEvent
down = takes s1 s2 ∷ takes s2 s3 ∷ []

abbrev pub through : List HeadEvent
through = down ++ takes s3 s2 ∷ takes s2 s1 ∷ []

-- the first head fails, the master learns of it, and the second server becomes the head
abbrev pub second_is_head : List HeadEvent
second_is_head = fails 1 ∷ takes s1 m ∷ takes m s2 ∷ []

-- an entry goes from the second head to the tail, and is acknowledged
abbrev pub through_second : List HeadEvent
through_second = takes s2 s3 ∷ takes s3 s2 ∷ []

-- an update at the head
abbrev pub update_of_head : List (Stays × HeadEvent)
update_of_head = uncut (creates 1 ∷ through)

-- a query at the head, and then an entry: that of an update
abbrev pub query_and_update : List (Stays × HeadEvent)
query_and_update = uncut (asks 1 ∷ creates 1 ∷ through)

-- two heads, one after the other: the second continues after what the first acknowledged
abbrev pub two_heads : List (Stays × HeadEvent)
two_heads = update_of_head ++ uncut (second_is_head ++ creates 2 ∷ through_second)

-- the first head fails with an entry that its successor has
abbrev pub successor_has_it : List (Stays × HeadEvent)
successor_has_it = uncut (creates 1 ∷ takes s1 s2 ∷ second_is_head ++ creates 2 ∷ through_second ++ through_second)

-- the same, where the entry is lost with the head
abbrev pub successor_lacks_it : List (Stays × HeadEvent)
successor_lacks_it = uncut (creates 1 ∷ []) ++ (each 0, fails 1) ∷ uncut (takes s1 m ∷ takes m s2 ∷ creates 2 ∷ through_second)

-- a head is cut off from its successor: nothing that it does is acknowledged. Then it fails, and
-- the second head continues from what it has
abbrev pub head_is_cut_off : List (Stays × HeadEvent)
head_is_cut_off =
    uncut (creates 1 ∷ [])
    ++ (on s1 s2 0, asks 1)
    ∷ uncut (creates 1 ∷ takes s1 s2 ∷ second_is_head ++ asks 2 ∷ creates 2 ∷ through_second)

-- the log explains what callers saw, over the service that counts
abbrev pub Explains : List Seen → List Update → Type 0
Explains seen log = IsOneLog counting seen log

-- an entry that changes nothing, as the front end appends after queries; and such a call at a head
abbrev pub empty_update : Update
empty_update = update.Ping 0

abbrev pub emptied : ℕ → ℕ → Note
emptied s before = record (made s before) { call = call.Update empty_update }

-- what callers see of a call that is acknowledged at once, and of two such calls
abbrev pub done : Note → List Seen
done note = Begun note ∷ Acknowledged note ∷ []

abbrev pub one_after_the_other : Note → Note → List Seen
one_after_the_other first second = done first ++ done second

-- an update with the reply of another place
abbrev pub misnamed : Note
misnamed = record (made 1 0) { reply = Some (name_reply 1) }

-- the log of two creates
abbrev pub two_creates : List Update
two_creates = create_update ∷ create_update ∷ []
