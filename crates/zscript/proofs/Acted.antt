-- Where no server runs out of memory, a line does what it does where no outcome is given.
use Rattle.std.proofs.Common.{◌≡◌, ℕ, zero, suc, Bool, true, false, if◌then◌else◌, List, [], ◌∷◌, ◌++◌, Some, None, drop, refl, sym, ap, ◌∙◌, subst}
use Rattle.std.specs.Prelude.{◌+◌, nat_lt, ◌&&◌, Ok, Err}
use Rattle.std.proofs.lemmas.List.{append-nil}
use Rattle.ztree.specs.Tree.{Tree}
use Rattle.zcalls.specs.Cached.{CachedState}
use Rattle.zprotocol.specs.server.Machine.{cached_tree}
use Rattle.zprotocol.specs.declared.world.event.Event.{Event}
use Rattle.zprotocol.specs.declared.world.event.Event.TheVariants as event
use Rattle.zprotocol.specs.declared.world.outcome.Outcome.{Outcome}
use Rattle.zprotocol.specs.declared.world.outcome.Outcome.TheVariants.{Acted}
use Rattle.zprotocol.specs.world.Events.{is_enabled}
use Rattle.zprotocol.specs.world.Reading.{read}
use Rattle.zprotocol.specs.world.Settle.{Settling, next_outcome, with_event, with_try, with_tries, is_over, passes, settle}
use Rattle.zprotocol.specs.world.Settle.{deliveries, retry_events, opening_settling, settling_end}
use Rattle.zscript_text.specs.declared.line.Line.{Line}
use Rattle.zscript_text.specs.declared.line.Line.TheVariants as asked
use Rattle.zscript_text.specs.declared.request.Request.{Request}
use Rattle.zscript_text.specs.Request.{Read}
use Rattle.zscript_text.specs.Line.{line_of}
use Rattle.zworld.specs.Steps.{AreActed}
use Rattle.zscript.specs.declared.limits.TheConstants.{MAX_EVENTS}
use Rattle.zscript.specs.Line.{ServiceWorld, ScriptState, script_state, LineEffect, no_effect, after_try}
use Rattle.zscript.specs.Line.{after_settling, event_effect, call_answered, call_effect, not_begun_text, settled_text}
use Rattle.zscript.specs.Line.{settle_effect, line_effect, read_effect, effect_of, effect_text, forgotten, answer}
use Rattle.zscript.specs.Line.{after}
use Rattle.zscript.specs.Done.{IsLineDone, IsLineActed}

abbrev TreeSettling : Type 0
TreeSettling = Settling (CachedState Tree)

-- the same, with no outcomes given
abbrev bare : TreeSettling → TreeSettling
bare s = record s { outcomes = [] }

next_acted : (outcomes : List Outcome) → AreActed outcomes → next_outcome outcomes ≡ Acted
next_acted [] acted = refl
next_acted (outcome ∷ outcomes) acted = acted.0

drop_acted : (outcomes : List Outcome) → AreActed outcomes → AreActed (drop 1 outcomes)
drop_acted [] acted = tt
drop_acted (outcome ∷ outcomes) acted = acted.1

-- an event that is tried
bare_try : (s : TreeSettling) (event : Event) → AreActed s.outcomes → with_try cached_tree (bare s) event ≡ bare (with_try cached_tree s event)
bare_try s event acted = by (nat_lt 0 s.left && is_enabled s.world event)
  where
    same : bare (with_event cached_tree s (read cached_tree s.world event Acted))
        ≡ bare (with_event cached_tree s (read cached_tree s.world event (next_outcome s.outcomes)))
    same = ap (λ (outcome : Outcome). bare (with_event cached_tree s (read cached_tree s.world event outcome))) (sym (next_acted s.outcomes acted))

    by : (may : Bool) → (if may then bare (with_event cached_tree s (read cached_tree s.world event Acted)) else bare s)
        ≡ bare (if may then with_event cached_tree s (read cached_tree s.world event (next_outcome s.outcomes)) else s)
    by true = same
    by false = refl

try_acted : (s : TreeSettling) (event : Event) → AreActed s.outcomes → AreActed (with_try cached_tree s event).outcomes
try_acted s event acted = by (nat_lt 0 s.left && is_enabled s.world event)
  where
    by : (may : Bool) → AreActed (if may then with_event cached_tree s (read cached_tree s.world event (next_outcome s.outcomes)) else s).outcomes
    by true = drop_acted s.outcomes acted
    by false = acted

-- events that are tried
bare_tries : (events : List Event) (s : TreeSettling) → AreActed s.outcomes → with_tries cached_tree (bare s) events
    ≡ bare (with_tries cached_tree s events)
bare_tries [] s acted = refl
bare_tries (event ∷ events) s acted =
    ap (λ (t : TreeSettling). with_tries cached_tree t events) (bare_try s event acted)
    ∙ bare_tries events (with_try cached_tree s event) (try_acted s event acted)

tries_acted : (events : List Event) (s : TreeSettling) → AreActed s.outcomes → AreActed (with_tries cached_tree s events).outcomes
tries_acted [] s acted = acted
tries_acted (event ∷ events) s acted = tries_acted events (with_try cached_tree s event) (try_acted s event acted)

-- one of two settlings
abbrev either : Bool → TreeSettling → TreeSettling → TreeSettling
either over s t = elim over [ true ↦ s | false ↦ t ]

bare_either : (over : Bool) (s t u : TreeSettling) → t ≡ bare u → either over (bare s) t ≡ bare (either over s u)
bare_either true s t u same = refl
bare_either false s t u same = same

either_acted : (over : Bool) (s t : TreeSettling) → AreActed s.outcomes → AreActed t.outcomes → AreActed (either over s t).outcomes
either_acted true s t first second = first
either_acted false s t first second = second

-- passes
bare_passes : (events : List Event) (more : ℕ) (s : TreeSettling) → AreActed s.outcomes → passes cached_tree events more (bare s)
    ≡ bare (passes cached_tree events more s)
bare_passes events zero s acted = refl
bare_passes events (suc more) s acted =
    bare_either (is_over s events) s (passes cached_tree events more (with_tries cached_tree (bare s) events))
    (passes cached_tree events more (with_tries cached_tree s events))
    (ap (λ (t : TreeSettling). passes cached_tree events more t) (bare_tries events s acted)
    ∙ bare_passes events more (with_tries cached_tree s events) (tries_acted events s acted))

passes_acted : (events : List Event) (more : ℕ) (s : TreeSettling) → AreActed s.outcomes → AreActed (passes cached_tree events more s).outcomes
passes_acted events zero s acted = acted
passes_acted events (suc more) s acted =
    either_acted (is_over s events) s (passes cached_tree events more (with_tries cached_tree s events)) acted
    (passes_acted events more (with_tries cached_tree s events) (tries_acted events s acted))

-- settling
bare_settle : (w : ServiceWorld) (limit : ℕ) (outcomes : List Outcome) → AreActed outcomes → settle cached_tree w limit []
    ≡ bare (settle cached_tree w limit outcomes)
bare_settle w limit outcomes acted =
    let events = deliveries w.master.clients in
    let retries = retry_events w.master.clients in
    let opening : TreeSettling = opening_settling w limit outcomes in
    let first = passes_acted events limit opening acted in
    ap (λ (s : TreeSettling). passes cached_tree events limit (with_tries cached_tree s retries)) (bare_passes events limit opening acted)
    ∙ ap (λ (s : TreeSettling). passes cached_tree events limit s) (bare_tries retries (passes cached_tree events limit opening) first)
    ∙ bare_passes events limit (with_tries cached_tree (passes cached_tree events limit opening) retries)
    (tries_acted retries (passes cached_tree events limit opening) first)

bare_settling : (before : TreeSettling) → AreActed before.outcomes → after_settling (bare before) ≡ bare (after_settling before)
bare_settling before acted =
    ap (λ (did : TreeSettling). record did { events = before.events ++ did.events }) (bare_settle before.world MAX_EVENTS before.outcomes acted)

-- a line's effect, with no outcomes given
abbrev bare_effect : LineEffect → LineEffect
bare_effect effect = record effect { did = bare effect.did }

module _ (w : ServiceWorld) (outcomes : List Outcome) (acted : AreActed outcomes) where
  abbrev plain : ScriptState
  plain = script_state w []

  abbrev given : ScriptState
  given = script_state w outcomes

  bare_after_try : (event : Event) → after_try plain event ≡ bare (after_try given event)
  bare_after_try event = bare_try (opening_settling w 1 outcomes) event acted

  bare_event : (event : Event) (done idle : List ℕ) → event_effect plain event done idle ≡ bare_effect (event_effect given event done idle)
  bare_event event done idle =
      ap (λ (did : TreeSettling). record { did = did; own = None; result = if is_enabled w event then done else idle }) (bare_after_try event)

  bare_settles : settle_effect plain ≡ bare_effect (settle_effect given)
  bare_settles =
      ap (λ (did : TreeSettling). record { did = did; own = None; result = settled_text (settling_end did) })
      (bare_settling (opening_settling w 0 outcomes) acted)

  module _ (request : Request) where
    abbrev begins : Event
    begins = event.Begin request.client request.call

    abbrev answered : TreeSettling → LineEffect
    answered did = call_answered did (Some (request.client, (w.clients request.client).number + 1))

    begun : answered (after_settling (after_try plain begins)) ≡ bare_effect (answered (after_settling (after_try given begins)))
    begun =
        ap (λ (did : TreeSettling). answered (after_settling did)) (bare_after_try begins)
        ∙ ap answered (bare_settling (after_try given begins) (try_acted (opening_settling w 1 outcomes) begins acted))

    by_begin : (may : Bool) → (if may then answered (after_settling (after_try plain begins)) else no_effect plain (not_begun_text plain request))
        ≡ bare_effect (if may then answered (after_settling (after_try given begins)) else no_effect given (not_begun_text given request))
    by_begin true = begun
    by_begin false = refl

    bare_call : call_effect plain request ≡ bare_effect (call_effect given request)
    bare_call = by_begin (is_enabled w begins)

  bare_line : (line : Line) → line_effect plain line ≡ bare_effect (line_effect given line)
  bare_line (asked.Call request) = bare_call request
  bare_line (asked.Begin request) = bare_event (event.Begin request.client request.call) _ _
  bare_line (asked.Take from to) = bare_event (event.Take from to) _ _
  bare_line (asked.Ignore from to) = bare_event (event.Ignore from to) _ _
  bare_line (asked.Fail server) = bare_event (event.Fail server) _ _
  bare_line (asked.Order order) = bare_event (event.Order order) _ _
  bare_line (asked.Retry client) = bare_event (event.Retry client) _ _
  bare_line asked.Settle = bare_settles

  bare_read : (read : Read Line) → read_effect plain read ≡ bare_effect (read_effect given read)
  bare_read (Err fault) = refl
  bare_read (Ok line) = bare_line line

  bare_effect_of : (line : List ℕ) → effect_of plain line ≡ bare_effect (effect_of given line)
  unfolding effect_of
  bare_effect_of line = bare_read (line_of line)

-- a line that was done, and at which no server ran out of memory
pub acted_line : (old new : ServiceWorld) (line : List ℕ) (writes : List ℕ → Type 0) (done : IsLineDone old line new writes)
    → AreActed done.reported → IsLineActed old line new writes
unfolding answer after
acted_line old new line writes done acted =
    let reported : AreActed (done.reported ++ []) = subst AreActed (sym (append-nil done.reported)) acted in
    let same = bare_effect_of old (done.reported ++ []) reported line in
    record {
      left =
          ap (λ (effect : LineEffect). script_state (forgotten effect.did.world) effect.did.outcomes) same
          ∙ ap (λ (s : ScriptState). script_state s.world []) (done.left []);
      answered = subst writes (sym (ap effect_text same ∙ done.answered [])) done.written;
    }
