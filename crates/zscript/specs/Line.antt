-- What a line does in a world of servers, master and clients, and its answer. The lines and their
-- texts are this project's profile. A line's answer depends only on what its events added to the
-- history.
use Rattle.std.specs.Prelude.{ℕ, ◌+◌, Bool, false, ◌&&◌, ◌==◌, nat_lt, List, [], ◌∷◌, ◌++◌, codes, Option, None, Some, Ok, Err, if◌then◌else◌}
use Rattle.std.specs.Option.{option_map_or}
use Rattle.std.specs.List.{flat_map}
use Rattle.std.specs.Fmt.{decimal}
use Rattle.ztree.specs.Tree.{Tree}
use Rattle.ztree.specs.declared.limits.TheConstants.{MAX_CLIENTS}
use Rattle.zcalls.specs.Cached.{CachedState}
use Rattle.zcalls.specs.declared.reply.Reply.{Reply}
use Rattle.zprotocol.specs.server.Machine.{cached_tree}
use Rattle.zprotocol.specs.declared.master.order.Order.{Order}
use Rattle.zprotocol.specs.declared.master.order_fault.OrderFault.{OrderFault}
use Rattle.zprotocol.specs.declared.master.order_fault.OrderFault.TheVariants.{Used, NotMember, Joining, NoChain, Lost, Last, Retiring}
use Rattle.zprotocol.specs.master.Table.{order_fault}
use Rattle.zprotocol.specs.declared.client.begin_fault.BeginFault.{BeginFault}
use Rattle.zprotocol.specs.declared.client.begin_fault.BeginFault.TheVariants as begin
use Rattle.zprotocol.specs.client.Table.{begin_fault}
use Rattle.zprotocol.specs.declared.world.event.Event.{Event}
use Rattle.zprotocol.specs.declared.world.event.Event.TheVariants as event
use Rattle.zprotocol.specs.declared.world.history.CallEvent.{CallEvent}
use Rattle.zprotocol.specs.declared.world.history.CallEvent.TheVariants.{Begin, Answer}
use Rattle.zprotocol.specs.declared.world.outcome.Outcome.{Outcome}
use Rattle.zprotocol.specs.declared.world.settled.Settled.{Settled}
use Rattle.zprotocol.specs.declared.world.settled.Settled.TheVariants.{Quiet, Limit}
use Rattle.zprotocol.specs.world.History.{History}
use Rattle.zprotocol.specs.world.World.{World, opening_world}
use Rattle.zprotocol.specs.world.Events.{is_enabled}
use Rattle.zprotocol.specs.world.Settle.{Settling, opening_settling, with_try, settle, settling_end}
use Rattle.zscript_text.specs.declared.line.Line.{Line}
use Rattle.zscript_text.specs.declared.line.Line.TheVariants as asked
use Rattle.zpath.specs.Faults.{fault_name}
use Rattle.zscript_text.specs.declared.request.Request.{Request}
use Rattle.zscript_text.specs.declared.request.LineFault.{LineFault}
use Rattle.zscript_text.specs.declared.request.LineFault.TheVariants.{BadLine, BadPath, BadData, Memory}
use Rattle.zscript_text.specs.Request.{Read}
use Rattle.zscript_text.specs.Line.{line_of}
use Rattle.zscript_text.specs.Reply.{reply_text}
use Rattle.zscript.specs.declared.limits.TheConstants.{MAX_EVENTS}

-- the world of the service
abbrev pub ServiceWorld : Type 0
ServiceWorld = World (CachedState Tree)

-- the state of a script: the world, and the outcome of each event to come; where none is given, the
-- event's process acts
pub record ScriptState : Type 0 where
  pub world : ServiceWorld
  pub outcomes : List Outcome

-- a world, and the outcomes of its events to come
abbrev pub script_state : ServiceWorld → List Outcome → ScriptState
script_state world outcomes = record { world = world; outcomes = outcomes }

-- the initial state of a script with this many servers, and every possible client
abbrev pub opening_script : ℕ → List Outcome → ScriptState
opening_script servers outcomes = script_state (opening_world cached_tree servers MAX_CLIENTS) outcomes

-- what is left of a world between two lines: the history is cleared
abbrev pub forgotten : ServiceWorld → ServiceWorld
forgotten w = record w { history = [] }

-- what a line did: its events with the world that they led to, the call that it invoked and waited
-- for, and its result
pub record LineEffect : Type 0 where
  pub did : Settling (CachedState Tree)
  pub own : Option (ℕ × ℕ)
  pub result : List ℕ

-- nothing was done
abbrev pub no_effect : ScriptState → List ℕ → LineEffect
no_effect s result = record { did = opening_settling s.world 0 s.outcomes; own = None; result = result }

-- one event is done, if it is enabled
abbrev pub after_try : ScriptState → Event → Settling (CachedState Tree)
after_try s event = with_try cached_tree (opening_settling s.world 1 s.outcomes) event

-- a line of one event: its result where the event is enabled, and where it isn't
abbrev pub event_effect : ScriptState → Event → List ℕ → List ℕ → LineEffect
event_effect s event done idle =
    record { did = after_try s event; own = None; result = if is_enabled s.world event then done else idle }

-- take, ignore, fail and retry
abbrev pub plain_effect : ScriptState → Event → LineEffect
plain_effect s event = event_effect s event (codes "done") (codes "idle")

-- why a call can't be invoked; memory refuses none here
abbrev pub begin_fault_text : BeginFault → List ℕ
begin_fault_text begin.Busy = codes "busy"
begin_fault_text begin.Memory = []
begin_fault_text begin.Exhausted = codes "no Numbers"

-- the result where a call couldn't be invoked: its client's fault, or that there is no such client
abbrev pub not_begun_text : ScriptState → Request → List ℕ
not_begun_text s request =
    if nat_lt request.client s.world.master.clients
    then option_map_or begin_fault_text (begin_fault (s.world.clients request.client)) (codes "idle")
    else codes "idle"

-- begin: the call is invoked, and no more
abbrev pub begin_effect : ScriptState → Request → LineEffect
begin_effect s request = event_effect s (event.Begin request.client request.call) (codes "begun") (not_begun_text s request)

-- the name of a fault of an order
abbrev pub order_fault_name : OrderFault → List ℕ
order_fault_name Used = codes "Used"
order_fault_name NotMember = codes "NotMember"
order_fault_name Joining = codes "Joining"
order_fault_name NoChain = codes "NoChain"
order_fault_name Lost = codes "Lost"
order_fault_name Last = codes "Last"
order_fault_name Retiring = codes "Retiring"

-- join and retire
abbrev pub order_effect : ScriptState → Order → LineEffect
order_effect s order =
    event_effect s (event.Order order) (codes "done")
    (option_map_or (λ fault. codes "no " ++ order_fault_name fault) (order_fault s.world.master order) (codes "idle"))

-- how settling ended
abbrev pub settled_text : Settled → List ℕ
settled_text Quiet = codes "quiet"
settled_text Limit = codes "limit"

-- the world settles, after events that were done
abbrev pub after_settling : Settling (CachedState Tree) → Settling (CachedState Tree)
after_settling before =
    let did = settle cached_tree before.world MAX_EVENTS before.outcomes in
    record did { events = before.events ++ did.events }

-- settle
abbrev pub settle_effect : ScriptState → LineEffect
settle_effect s =
    let did = after_settling (opening_settling s.world 0 s.outcomes) in
    record { did = did; own = None; result = settled_text (settling_end did) }

-- the event is the response to the call of this client and number
abbrev pub is_answer_to : Option (ℕ × ℕ) → ℕ → ℕ → Bool
is_answer_to None client number = false
is_answer_to (Some call) client number = (call.0 == client) && (call.1 == number)

-- the reply to a call in a history, if it was answered
abbrev pub reply_in : Option (ℕ × ℕ) → History → Option Reply
reply_in call [] = None
reply_in call (Begin client number begun ∷ more) = reply_in call more
reply_in call (Answer client number reply ∷ more) = if is_answer_to call client number then Some reply else reply_in call more

-- the text of that reply; or that there is none
abbrev pub own_reply_text : Option (ℕ × ℕ) → History → List ℕ
own_reply_text call history = option_map_or reply_text (reply_in call history) (codes "unanswered")

-- a call that was invoked and for which the world settled
abbrev pub call_answered : Settling (CachedState Tree) → Option (ℕ × ℕ) → LineEffect
call_answered did call = record { did = did; own = call; result = own_reply_text call did.world.history }

-- a client's call: it is invoked and the world settles, or it can't be invoked and nothing is done
abbrev pub call_effect : ScriptState → Request → LineEffect
call_effect s request =
    let begins = event.Begin request.client request.call in
    if is_enabled s.world begins
    then call_answered (after_settling (after_try s begins)) (Some (request.client, (s.world.clients request.client).number + 1))
    else no_effect s (not_begun_text s request)

-- the effect of a line
abbrev pub line_effect : ScriptState → Line → LineEffect
line_effect s (asked.Call request) = call_effect s request
line_effect s (asked.Begin request) = begin_effect s request
line_effect s (asked.Take from to) = plain_effect s (event.Take from to)
line_effect s (asked.Ignore from to) = plain_effect s (event.Ignore from to)
line_effect s (asked.Fail server) = plain_effect s (event.Fail server)
line_effect s (asked.Order order) = order_effect s order
line_effect s (asked.Retry client) = plain_effect s (event.Retry client)
line_effect s asked.Settle = settle_effect s

-- the answer to a refused line; out of memory ends the script, and has none
abbrev pub line_fault_text : LineFault → List ℕ
line_fault_text BadLine = codes "bad line"
line_fault_text (BadPath fault) = codes "bad path " ++ fault_name fault
line_fault_text BadData = codes "bad data"
line_fault_text Memory = []

-- the effect of a line that was read, or its fault
abbrev pub read_effect : ScriptState → Read Line → LineEffect
read_effect s (Err fault) = no_effect s (line_fault_text fault)
read_effect s (Ok line) = line_effect s line

-- what a line did
unfoldable pub effect_of : ScriptState → List ℕ → LineEffect
effect_of s line = read_effect s (line_of line)

-- the line for a response that a client received, except the response to the line's own call
abbrev pub taken_text : Option (ℕ × ℕ) → CallEvent → List ℕ
taken_text own (Begin client number call) = []
taken_text own (Answer client number reply) =
    if is_answer_to own client number then [] else codes "c" ++ decimal client ++ 32 ∷ reply_text reply ++ 10 ∷ []

-- the answer to an effect: first the other responses that were received, then the result
abbrev pub effect_text : LineEffect → List ℕ
effect_text effect = flat_map (taken_text effect.own) effect.did.world.history ++ effect.result ++ 10 ∷ []

-- the bytes that are written for a line
unfoldable pub answer : ScriptState → List ℕ → List ℕ
answer s line = effect_text (effect_of s line)

-- and the state after it
unfoldable pub after : ScriptState → List ℕ → ScriptState
after s line =
    let did = (effect_of s line).did in
    script_state (forgotten did.world) did.outcomes

-- the bytes that are written for these lines
abbrev pub answers : ScriptState → List (List ℕ) → List ℕ
answers s [] = []
answers s (line ∷ lines) = answer s line ++ answers (after s line) lines

-- what lines added to the history, one after the other
abbrev pub histories : ScriptState → List (List ℕ) → History
histories s [] = []
histories s (line ∷ lines) = (effect_of s line).did.world.history ++ histories (after s line) lines
