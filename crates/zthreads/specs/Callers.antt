-- What a clause says of a client with its endpoint.
use Rattle.std.specs.Prelude.{◌≡◌, ◌⊎◌, ◌<◌, ℕ, Bool, true, false, List, Option, Some, max, is_some}
use Rattle.zcalls.specs.declared.call.Call.{Call}
use Rattle.zcalls.specs.declared.reply.Reply.{Reply}
use Rattle.zprotocol.specs.declared.client.begin_fault.BeginFault.{BeginFault}
use Rattle.zprotocol.specs.declared.client.begin_fault.BeginFault.TheVariants.{Memory}
use Rattle.zprotocol.specs.client.Table.{begin_fault}
use Rattle.zprotocol.specs.client.View.{ClientView}
use Rattle.zprotocol.specs.declared.process.Process.{Process}
use Rattle.zprotocol.specs.traces.Stamps.{next_stamp}
use Rattle.zprotocol.specs.world.Does.{AtClient}
use Rattle.zthreads.specs.declared.endpoint.Endpoint.{Endpoint}
use Rattle.zthreads.specs.Endpoints.{Accounts, IsCutForNeed, IsLostForNeed, SameBooks, TreeDeed, TreeStamped, books_of, is_cut_of, pending}
use Rattle.zthreads.specs.Endpoints.{self_of, stamp_of_endpoint}
use Rattle.zthreads.specs.Steps.{Begins, Heard, HeardNothing, SendsAgain}
use Rattle.zthreads.specs.Hosts.{host_endpoint, host_front, host_learnt, host_stamp, host_standing}
use Rattle.zthreads.specs.Standings.{client_known}
use Rattle.zthreads.specs.declared.caller.Caller.{Caller}

-- its number, endpoint and view, and the last timestamp that it knows
abbrev pub caller_id : Caller → ℕ
caller_id c = c.id

abbrev pub caller_endpoint : Caller → Endpoint
caller_endpoint c = host_endpoint c.host

abbrev pub caller_view : Caller → ClientView
caller_view c = client_known (host_standing c.host)

abbrev pub caller_stamp : Caller → ℕ
caller_stamp c = host_stamp c.host

-- The steps account for the client as it is: they led to its view and last timestamp. They received
-- what it received, except a message that counts as still in its ring. They sent what it sent, with
-- what waits to be sent.
abbrev pub AccountsForCaller : Caller → List TreeDeed → Type 0
AccountsForCaller c deeds =
    Accounts (self_of (caller_endpoint c)) (books_of (caller_endpoint c)) (AtClient (caller_view c)) (host_front c.host)
    (pending (caller_endpoint c)) deeds

-- the last timestamp that it learned
abbrev pub learnt_of : Caller → ℕ
learnt_of c = host_learnt c.host

-- it learned no other timestamp, and forgot none
abbrev pub SameLearnt : Caller → Caller → Type 0
SameLearnt a b = learnt_of b ≡ learnt_of a

-- nothing was done
abbrev pub SameCaller : Caller → Caller → Type 0
SameCaller a b = SameBooks (caller_endpoint a) (caller_endpoint b) × (caller_view b ≡ caller_view a)

-- the event is later than all that it knew, unless the trace is cut
abbrev pub IsLater : Caller → Caller → Type 0
IsLater a b = is_cut_of (caller_endpoint b) ≡ false → caller_stamp a < stamp_of_endpoint (caller_endpoint b)

-- the event has the timestamp after all that it knew
abbrev pub IsNext : Caller → Caller → Type 0
IsNext a b = stamp_of_endpoint (caller_endpoint b) ≡ next_stamp (caller_stamp a)

-- why a call isn't invoked, by the first test that holds; or out of memory, where no call is
-- outstanding
abbrev pub MayRefuse : ClientView → BeginFault → Type 0
MayRefuse v Memory = is_some v.outstanding ≡ false
MayRefuse v fault = begin_fault v ≡ Some fault

-- it invoked the call with that number
abbrev pub Began : Caller → Caller → Call → ℕ → Type 0
Began a b call number = Begins a.id (caller_endpoint a) (caller_view a) (caller_endpoint b) (caller_view b) call number × IsNext a b × IsLater a b

-- it sent its call once more, or had none to send
abbrev pub Retried : Caller → Caller → Bool → Type 0
Retried a b true = SendsAgain (caller_endpoint a) (caller_view a) (caller_endpoint b) (caller_view b) × IsNext a b × IsLater a b
Retried a b false = (is_some (caller_view a).outstanding ≡ false) × SameCaller a b

-- one `turn`: it heard a message, with the timestamp after that of the message and all that it
-- knew, or it heard nothing
abbrev pub Turned : Caller → Caller → Option Reply → Type 0
Turned a b reply =
    HeardNothing (caller_endpoint a) (caller_view a) (caller_endpoint b) (caller_view b) reply
    ⊎ ((from : Process) × (m : TreeStamped) × Heard a.id (caller_endpoint a) (caller_view a) (caller_endpoint b) (caller_view b) from m reply
    × (stamp_of_endpoint (caller_endpoint b) ≡ next_stamp (max (stamp_of_endpoint (caller_endpoint a)) (max (learnt_of a) m.0))))

-- its trace isn't cut without need
abbrev pub IsUncut : Caller → Caller → Type 0
IsUncut a b = IsCutForNeed (caller_endpoint a) (caller_endpoint b) (stamp_of_endpoint (caller_endpoint b))

-- what it does isn't lost before the last timestamp
abbrev pub IsUnlost : Caller → Caller → Type 0
IsUnlost a b = IsLostForNeed (caller_endpoint a) (caller_endpoint b) (stamp_of_endpoint (caller_endpoint b))
