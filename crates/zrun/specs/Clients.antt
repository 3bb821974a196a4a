-- What a clause says of a client of a cluster.
use Rattle.std.specs.Prelude.{◌≡◌, ◌≢◌, ◌<◌, ℕ, zero, suc, true, false, List, Option, None, Some}
use Rattle.zcalls.specs.declared.call.Call.{Call}
use Rattle.zcalls.specs.declared.reply.Reply.{Reply}
use Rattle.zprotocol.specs.declared.client.begin_fault.BeginFault.{BeginFault}
use Rattle.zprotocol.specs.client.View.{ClientView}
use Rattle.zthreads.specs.declared.endpoint.Endpoint.{Endpoint}
use Rattle.zthreads.specs.declared.endpoint.Ending.{Ending}
use Rattle.zthreads.specs.Endpoints.{Each}
use Rattle.zthreads.specs.Endpoints as endpoint
use Rattle.zthreads.specs.Endings.{HasEndedBy, LeavesNothing, SameWires}
use Rattle.zthreads.specs.declared.caller.Caller.{Caller}
use Rattle.zthreads.specs.Callers.{AccountsForCaller, caller_endpoint, caller_id, caller_view, Began, MayRefuse, SameCaller, Turned}
use Rattle.zchannels.specs.declared.halts.HaltSeat.{HaltSeat}
use Rattle.zrun.specs.declared.client.Client.{Client}
use Rattle.zrun.specs.declared.faults.Unanswered.{Unanswered}
use Rattle.zrun.specs.declared.faults.Unanswered.TheVariants.{NoAnswer}
use Rattle.zrun.specs.Faults.{unanswered_by}
use Rattle.zrun.specs.Origins.{endpoint_wiring, IsOneOf, Run, Wiring}

-- the caller that acts for it
abbrev pub caller_of : Client → Caller
caller_of c = c.caller

-- it called `turn` that many times, and no call returned a reply
abbrev pub TurnedInVain : ℕ → Caller → Caller → Type 0
TurnedInVain zero a b = b ≡ a
TurnedInVain (suc n) a b = (m : Caller) × TurnedInVain n a m × Turned m b None

-- it called `turn` at most that many times, and the last call returned this reply
abbrev pub TurnedUntil : ℕ → Caller → Caller → Reply → Type 0
TurnedUntil turns a b reply = (n : ℕ) × (n < turns) × (m : Caller) × TurnedInVain n a m × Turned m b (Some reply)

-- why a call wasn't invoked
abbrev pub IsRefused : ClientView → Unanswered → Type 0
IsRefused v fault = (by : BeginFault) × (fault ≡ unanswered_by by) × MayRefuse v by

-- it invoked the call, and this was done next
abbrev pub BeganThen : Caller → Call → (Caller → Type 0) → Type 0
BeganThen a call P = (m : Caller) × (number : ℕ) × Began a m call number × P m

-- it invoked the call, and called `turn` at most that many times; the last one returned this reply
abbrev pub CalledUntil : ℕ → Call → Client → Client → Reply → Type 0
CalledUntil turns call a b reply = BeganThen (caller_of a) call (λ begun. TurnedUntil turns begun (caller_of b) reply)

-- if the fault is that there is no reply, it invoked the call, and called `turn` that often in vain
abbrev pub CalledInVain : ℕ → Call → Client → Client → Unanswered → Type 0
CalledInVain turns call a b fault =
    fault ≡ NoAnswer → BeganThen (caller_of a) call (λ begun. TurnedInVain turns begun (caller_of b))

-- with any other fault nothing was invoked
abbrev pub BeganNothing : Client → Client → Unanswered → Type 0
BeganNothing a b fault =
    fault ≢ NoAnswer → IsRefused (caller_view (caller_of a)) fault × SameCaller (caller_of a) (caller_of b)

-- there is no reply: it called `turn` that many times in vain
abbrev pub WaitedInVain : ℕ → Client → Client → Unanswered → Type 0
WaitedInVain turns a b fault = (fault ≡ NoAnswer) × TurnedInVain turns (caller_of a) (caller_of b)

-- its seat at the run's halt word
abbrev pub halt_seat : Client → HaltSeat
halt_seat c = c.seat

-- its number, and its endpoint
abbrev pub number_of : Client → ℕ
number_of c = caller_id c.caller

abbrev pub client_endpoint : Client → Endpoint
client_endpoint c = caller_endpoint c.caller

abbrev pub client_wiring : Client → Wiring
client_wiring c = endpoint_wiring (client_endpoint c)

-- it is a client of that run
abbrev pub BelongsTo : Run → Client → Type 0
BelongsTo run c = IsOneOf run (number_of c) (client_wiring c)

-- it is the same client, after whatever calls
pub record SameClient (a b : Client) : Type 0 where
  pub number : number_of b ≡ number_of a
  pub wiring : client_wiring b ≡ client_wiring a

-- it set no bit of the halt word, and saw none
abbrev pub SameSeat : Client → Client → Type 0
SameSeat a b = halt_seat b ≡ halt_seat a

-- it is the client of that number
abbrev pub IsClientOf : Run → ℕ → Client → Type 0
IsClientOf run number c = BelongsTo run c × (number_of c ≡ number)

-- each is at the index of its number, and belongs to the run
abbrev pub AreIn : Run → List (Option Client) → Type 0
AreIn run places = Each (λ i place. (c : Client) → place ≡ Some c → IsClientOf run i c) places

-- the steps account for the client as it is
abbrev pub AccountsFor : Client → List endpoint.TreeDeed → Type 0
AccountsFor c deeds = AccountsForCaller c.caller deeds

-- it is what the client left, by steps that account for the client; it has no trace and no record
-- if that isn't traced, and its trace is cut if that is cut. What one did that isn't there is lost,
-- and its trace is cut
abbrev pub IsLeftIn : Option Client → Ending → Type 0
IsLeftIn None e = (e.trace.is_cut ≡ true) × (e.is_lost ≡ true)
IsLeftIn (Some c) e =
    HasEndedBy (endpoint.self_of (client_endpoint c)) e (AccountsFor c)
    × SameWires (client_endpoint c) e
    × (e.trace.events.items ≡ endpoint.trace_of (client_endpoint c))
    × (e.seen.items ≡ endpoint.seen_of (client_endpoint c))
    × (endpoint.is_traced_of (client_endpoint c) ≡ false → LeavesNothing e)
    × (endpoint.is_cut_of (client_endpoint c) ≡ true → e.trace.is_cut ≡ true)
