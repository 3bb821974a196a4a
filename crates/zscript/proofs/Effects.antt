-- One event, or settling, brought about on a world, is the effect of a line.
use Rattle.std.proofs.Common.{◌≡◌, ℕ, Bool, true, false, if◌then◌else◌, List, [], ◌∷◌, ◌++◌, codes, None, refl, sym, ap, subst, ◌∙◌}
use Rattle.std.specs.Prelude.{◌&&◌, not}
use Rattle.std.specs.List.{flat_map}
use Rattle.std.specs.Option.{option_map_or}
use mathlib.Core.Bool.{true≢false}
use Rattle.ztree.specs.Tree.{Tree}
use Rattle.zcalls.specs.Cached.{CachedState}
use Rattle.zprotocol.specs.server.Machine.{cached_tree}
use Rattle.zprotocol.specs.declared.master.order.Order.{Order}
use Rattle.zprotocol.specs.master.Table.{order_fault}
use Rattle.zprotocol.specs.declared.world.event.Event.{Event}
use Rattle.zprotocol.specs.declared.world.event.Event.TheVariants as event
use Rattle.zprotocol.specs.declared.world.outcome.Outcome.{Outcome}
use Rattle.zprotocol.specs.declared.world.outcome.Outcome.TheVariants.{Acted}
use Rattle.zprotocol.specs.declared.world.settled.Settled.{Settled}
use Rattle.zprotocol.specs.world.Events.{is_enabled, happens}
use Rattle.zprotocol.specs.world.Reading.{read}
use Rattle.zprotocol.specs.world.Settle.{Settling, opening_settling, next_outcome, with_event}
use Rattle.zworld.specs.declared.did.Did.{Did}
use Rattle.zworld.specs.declared.did.Did.TheVariants as became
use Rattle.zworld.specs.declared.did.IdleCause.{IdleCause}
use Rattle.zworld.specs.declared.did.IdleCause.TheVariants as cause
use Rattle.zworld.specs.Held.{Held, kept_world}
use Rattle.zworld.specs.Did.{IsCause, is_idle, is_short, outcome_of}
use Rattle.zworld.specs.Steps.{WorldView, AreActed, HasHappened, world_in}
use Rattle.zworld.specs.support.Settled.{HasSettledBy}
use Rattle.zworld.proofs.Steps.{read_acted, happens_not}
use Rattle.zworld.proofs.Tries.{acted_at}
use Rattle.zscript.specs.declared.limits.TheConstants.{MAX_EVENTS}
use Rattle.zscript.specs.Line.{ServiceWorld, ScriptState, script_state, LineEffect, after_try, event_effect}
use Rattle.zscript.specs.Line.{plain_effect, order_effect, order_fault_name, settled_text, settle_effect, taken_text}
use Rattle.zscript.specs.support.Effects.{cause_text, did_text, LeadsTo, IsEffectDoneBy, IsEventDone}

-- the opposite of a test
opposite : (a b : Bool) → a ≡ not b → b ≡ not a
opposite true true e = absurd (true≢false e)
opposite true false e = refl
opposite false true e = refl
opposite false false e = absurd (true≢false (sym e))

-- an event that is tried, where it is enabled, and where it isn't
pub tried_on : (w : ServiceWorld) (outcomes : List Outcome) (event : Event) → is_enabled w event ≡ true
    → after_try (script_state w outcomes) event ≡ with_event cached_tree (opening_settling w 1 outcomes)
    (read cached_tree w event (next_outcome outcomes))
tried_on w outcomes event on =
    let opening : Settling (CachedState Tree) = opening_settling w 1 outcomes in
    ap (λ b. if b then with_event cached_tree opening (read cached_tree w event (next_outcome outcomes)) else opening) on

tried_off : (w : ServiceWorld) (outcomes : List Outcome) (event : Event) → is_enabled w event ≡ false
    → after_try (script_state w outcomes) event ≡ opening_settling w 1 outcomes
tried_off w outcomes event off =
    let opening : Settling (CachedState Tree) = opening_settling w 1 outcomes in
    ap (λ b. if b then with_event cached_tree opening (read cached_tree w event (next_outcome outcomes)) else opening) off

-- the outcomes that are met at an event
abbrev pub reported_of : Did → List Outcome
reported_of did = if is_idle did then [] else outcome_of did ∷ []

-- no server ran out of memory at them
reported_acted : (did : Did) → outcome_of did ≡ Acted → AreActed (reported_of did)
reported_acted (became.Idle why) acted = tt
reported_acted became.Done acted = (acted, tt)
reported_acted became.Unheard acted = (acted, tt)
reported_acted became.Stopped acted = (acted, tt)

module _ (v w : ServiceWorld) (event : Event) where
  -- an event that happened is enabled; one that is idle isn't, and the world stays
  pub enabled : (did : Did) → HasHappened v event did w → is_idle did ≡ false → is_enabled v event ≡ true
  enabled did has so = opposite (is_idle did) (is_enabled v event) has.idle ∙ ap not so

  pub not_enabled : (why : IdleCause) → HasHappened v event (became.Idle why) w → is_enabled v event ≡ false
  not_enabled why has = opposite true (is_enabled v event) has.idle

  pub idle_stays : (why : IdleCause) → HasHappened v event (became.Idle why) w → v ≡ w
  idle_stays why has =
      sym (ap (λ (e : Event). happens cached_tree v e) (read_acted v event) ∙ happens_not v event (not_enabled why has)) ∙ has.leads

  -- the effect of an event
  happened : (did : Did) (done idle : List ℕ) (later : List Outcome) → HasHappened v event did w → is_idle did ≡ false
      → LeadsTo (event_effect (script_state v (outcome_of did ∷ later)) event done idle) w None done later
  happened did done idle later has so =
      let on = enabled did has so in
      let tried = tried_on v (outcome_of did ∷ later) event on in
      record {
        led = ap (λ (s : Settling (CachedState Tree)). s.world) tried ∙ has.leads;
        left = ap (λ (s : Settling (CachedState Tree)). s.outcomes) tried;
        owned = refl;
        answered = ap (λ b. if b then done else idle) on;
      }

  event_leads : (did : Did) (done idle : List ℕ) (later : List Outcome) → HasHappened v event did w
      → LeadsTo (event_effect (script_state v (reported_of did ++ later)) event done idle) w None (if is_idle did then idle else done) later
  event_leads (became.Idle why) done idle later has =
      let off = not_enabled why has in
      let tried = tried_off v later event off in
      record {
        led = ap (λ (s : Settling (CachedState Tree)). s.world) tried ∙ idle_stays why has;
        left = ap (λ (s : Settling (CachedState Tree)). s.outcomes) tried;
        owned = refl;
        answered = ap (λ b. if b then done else idle) off;
      }
  event_leads became.Done done idle later has = happened became.Done done idle later has refl
  event_leads became.Unheard done idle later has = happened became.Unheard done idle later has refl
  event_leads became.Stopped done idle later has = happened became.Stopped done idle later has refl

  -- a line of one event
  pub event_done : (strict : Bool) (did : Did) (writes : List ℕ → Type 0) → (strict ≡ true → outcome_of did ≡ Acted) → HasHappened v event did w
      → (effect : ScriptState → LineEffect) (done idle result : List ℕ)
      → ((outcomes : List Outcome) → effect (script_state v outcomes) ≡ event_effect (script_state v outcomes) event done idle)
      → (if is_idle did then idle else done) ≡ result → writes (flat_map (taken_text None) w.history ++ result)
      → IsEffectDoneBy strict v w effect writes
  event_done strict did writes acted has effect done idle result is reported written = (
    record {
      reported = reported_of did;
      own = None;
      result = result;
      leads = λ later.
          subst (λ (e : LineEffect). LeadsTo e w None result later) (sym (is (reported_of did ++ later)))
          (subst (λ text. LeadsTo (event_effect (script_state v (reported_of did ++ later)) event done idle) w None text later) reported
          (event_leads did done idle later has));
      written = written;
    },
    λ strictly. reported_acted did (acted strictly),
  )

-- where it is strict, an event continues only where no server ran out of memory
pub whole_where : (strict : Bool) (did : Did) → strict ≡ true → (strict && is_short did) ≡ false → is_short did ≡ false
whole_where true did strictly whole = whole
whole_where false did strictly whole = absurd (true≢false (sym strictly))

-- take, ignore, fail and retry
plain_text : (did : Did) → ((why : IdleCause) → did ≡ became.Idle why → why ≡ cause.Nothing)
    → (if is_idle did then codes "idle" else codes "done") ≡ did_text did
plain_text (became.Idle why) caused = ap cause_text (sym (caused why refl))
plain_text became.Done caused = refl
plain_text became.Unheard caused = refl
plain_text became.Stopped caused = refl

pub plain_done : (strict : Bool) (old new : WorldView) (event : Event) (writes : List ℕ → Type 0)
    → ((why : IdleCause) → IsCause old.held event why → why ≡ cause.Nothing) → IsEventDone strict old new event writes
    → IsEffectDoneBy strict (world_in old) (world_in new) (λ s. plain_effect s event) writes
plain_done strict old new event writes nothing done =
    event_done (world_in old) (world_in new) event strict done.did writes (λ strictly. acted_at done.did (done.acted strictly))
    done.happened (λ s. plain_effect s event) (codes "done") (codes "idle") (did_text done.did) (λ outcomes. refl)
    (plain_text done.did (λ why is. nothing why (done.caused why is))) done.written

-- join and retire
order_text : (old : Held) (order : Order) (did : Did) → ((why : IdleCause) → did ≡ became.Idle why → IsCause old (event.Order order) why)
    → (if is_idle did then option_map_or (λ fault. codes "no " ++ order_fault_name fault) (order_fault (kept_world old []).master order)
    (codes "idle") else codes "done") ≡ did_text did
order_text old order (became.Idle why) caused = refused why (caused why refl)
  where
    refused : (why : IdleCause) → IsCause old (event.Order order) why
        → option_map_or (λ fault. codes "no " ++ order_fault_name fault) (order_fault (kept_world old []).master order) (codes "idle")
        ≡ cause_text why
    refused (cause.Order fault) is = ap (λ fault. option_map_or (λ fault. codes "no " ++ order_fault_name fault) fault (codes "idle")) is
    refused (cause.Begin fault) is = absurd is
    refused cause.Nothing is = absurd is
order_text old order became.Done caused = refl
order_text old order became.Unheard caused = refl
order_text old order became.Stopped caused = refl

pub order_done : (strict : Bool) (old new : WorldView) (order : Order) (writes : List ℕ → Type 0)
    → IsEventDone strict old new (event.Order order) writes
    → IsEffectDoneBy strict (world_in old) (world_in new) (λ s. order_effect s order) writes
order_done strict old new order writes done =
    event_done (world_in old) (world_in new) (event.Order order) strict done.did writes (λ strictly. acted_at done.did (done.acted strictly))
    done.happened (λ s. order_effect s order) (codes "done")
    (option_map_or (λ fault. codes "no " ++ order_fault_name fault) (order_fault (kept_world old.held []).master order) (codes "idle"))
    (did_text done.did) (λ outcomes. refl)
    (order_text old.held order done.did done.caused) done.written

-- settle
pub settle_done : (strict : Bool) (v w : ServiceWorld) (settled : Settled) (writes : List ℕ → Type 0) → HasSettledBy strict v MAX_EVENTS settled w
    → writes (flat_map (taken_text None) w.history ++ settled_text settled) → IsEffectDoneBy strict v w settle_effect writes
settle_done strict v w settled writes (learnt, acted, ends) written = (
  record {
    reported = learnt;
    own = None;
    result = settled_text settled;
    leads = λ later. record {
      led = (ends later).2;
      left = (ends later).1;
      owned = refl;
      answered = ap settled_text (sym (ends later).0);
    };
    written = written;
  },
  acted,
)
