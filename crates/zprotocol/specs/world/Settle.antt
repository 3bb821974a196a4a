-- Settling runs the world until it is quiescent: it delivers the messages in one fixed order. A
-- pass visits all channels, and delivers one message from each that has one when the pass comes to
-- it. Passes continue until no message can be delivered. Then each client with an outstanding call
-- sends it once more, and passes follow again. Settling ends early, at its limit, as soon as that
-- many events were done.
use Rattle.std.specs.Prelude.{◌+◌, if◌then◌else◌, ℕ, zero, suc, ◌-◌, Bool, true, false, ◌&&◌, ◌||◌, not, nat_lt, ◌==◌}
use Rattle.std.specs.Prelude.{List, [], ◌∷◌, ◌++◌, map, flat_map, drop}
use Rattle.std.specs.List.{range_with_len, list_any}
use Rattle.zprotocol.specs.declared.limits.TheConstants.{MAX_SERVERS}
use Rattle.zprotocol.specs.declared.process.Process.{Process}
use Rattle.zprotocol.specs.server.Machine.{Does}
use Rattle.zprotocol.specs.Places.{process_at}
use Rattle.zprotocol.specs.declared.world.event.Event.{Event}
use Rattle.zprotocol.specs.declared.world.event.Event.TheVariants.{Retry, Take}
use Rattle.zprotocol.specs.declared.world.outcome.Outcome.{Outcome}
use Rattle.zprotocol.specs.declared.world.outcome.Outcome.TheVariants.{Acted}
use Rattle.zprotocol.specs.declared.world.settled.Settled.{Settled}
use Rattle.zprotocol.specs.declared.world.settled.Settled.TheVariants.{Quiet, Limit}
use Rattle.zprotocol.specs.world.World.{World}
use Rattle.zprotocol.specs.world.Events.{is_enabled, happens}
use Rattle.zprotocol.specs.world.Reading.{read}

-- the processes in order: the master, the servers, and this many clients
abbrev pub processes : ℕ → List Process
processes client_count = map process_at (range_with_len 0 (MAX_SERVERS + 1 + client_count))

-- a delivery on each channel, in the order of (from, to)
abbrev pub deliveries : ℕ → List Event
deliveries client_count = flat_map (λ from. map (λ to. Take from to) (processes client_count)) (processes client_count)

-- a retry of each client, by number
abbrev pub retry_events : ℕ → List Event
retry_events client_count = map Retry (range_with_len 0 client_count)

-- how far settling has come: the world, the resolved events done so far, how many more may be done,
-- and the outcomes of those. Where no outcome is given, the receiver acts
pub record Settling (M : Type 0) : Type 0 where
  pub world : World M
  pub events : List Event
  pub left : ℕ
  pub outcomes : List Outcome

-- the outcome of the next event
abbrev pub next_outcome : List Outcome → Outcome
next_outcome [] = Acted
next_outcome (outcome ∷ outcomes) = outcome

-- one more event is done
abbrev pub with_event : {M : Type 0} → Does M → Settling M → Event → Settling M
with_event machine s event =
    record {
      world = happens machine s.world event;
      events = s.events ++ event ∷ [];
      left = s.left - 1;
      outcomes = drop 1 s.outcomes;
    }

-- an event is done, resolved, if it is enabled and one more may be done
abbrev pub with_try : {M : Type 0} → Does M → Settling M → Event → Settling M
with_try machine s event =
    if nat_lt 0 s.left && is_enabled s.world event then with_event machine s (read machine s.world event (next_outcome s.outcomes)) else s

-- events in order, each tried when those before it are done
abbrev pub with_tries : {M : Type 0} → Does M → Settling M → List Event → Settling M
with_tries machine s [] = s
with_tries machine s (event ∷ events) = with_tries machine (with_try machine s event) events

-- no more may be done, or no message can be delivered
abbrev pub is_over : {M : Type 0} → Settling M → List Event → Bool
is_over s deliveries = s.left == 0 || not (list_any (is_enabled s.world) deliveries)

-- passes until it is over; each delivers at least one message, so at most as many passes as events
-- are needed
abbrev pub passes : {M : Type 0} → Does M → List Event → ℕ → Settling M → Settling M
passes machine deliveries zero s = s
passes machine deliveries (suc more) s =
    elim (is_over s deliveries) [ true ↦ s | false ↦ passes machine deliveries more (with_tries machine s deliveries) ]

-- settling before anything is done
abbrev pub opening_settling : {M : Type 0} → World M → ℕ → List Outcome → Settling M
opening_settling w limit outcomes = record { world = w; events = []; left = limit; outcomes = outcomes }

-- settling with a limit: passes, one retry of each client with an outstanding call, and passes
-- again
abbrev pub settle : {M : Type 0} → Does M → World M → ℕ → List Outcome → Settling M
settle machine w limit outcomes =
    passes machine (deliveries w.master.clients) limit
    (with_tries machine (passes machine (deliveries w.master.clients) limit (opening_settling w limit outcomes)) (retry_events w.master.clients))

-- how it ended: at the limit as soon as that many events were done, even where nothing would have
-- been left
abbrev pub settling_end : {M : Type 0} → Settling M → Settled
settling_end s = if s.left == 0 then Limit else Quiet
