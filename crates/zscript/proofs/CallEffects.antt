-- A call, brought about on a world, is the effect of a line.
use Rattle.std.proofs.Common.{◌≡◌, ℕ, ◌+◌, Bool, true, false, if◌then◌else◌, List, [], ◌∷◌, ◌++◌, Option, None, Some}
use Rattle.std.proofs.Common.{codes, refl, sym, ap, subst, ◌∙◌}
use Rattle.std.specs.Option.{option_map_or}
use Rattle.ztree.specs.Tree.{Tree}
use Rattle.zcalls.specs.Cached.{CachedState}
use Rattle.zcalls.specs.declared.call.Call.{Call}
use Rattle.zprotocol.specs.server.Machine.{cached_tree}
use Rattle.zprotocol.specs.client.Table.{begin_step}
use Rattle.zprotocol.specs.declared.world.event.Event.{Event}
use Rattle.zprotocol.specs.declared.world.event.Event.TheVariants as event
use Rattle.zprotocol.specs.declared.world.history.CallEvent.TheVariants as call_event
use Rattle.zprotocol.specs.declared.world.outcome.Outcome.{Outcome}
use Rattle.zprotocol.specs.declared.world.outcome.Outcome.TheVariants.{Acted}
use Rattle.zprotocol.specs.declared.world.settled.Settled.{Settled}
use Rattle.zprotocol.specs.world.History.{History}
use Rattle.zprotocol.specs.world.Events.{is_enabled, happens, run}
use Rattle.zprotocol.specs.world.Settle.{Settling, settle}
use Rattle.zscript_text.specs.declared.request.Request.{Request}
use Rattle.zworld.specs.declared.did.Did.{Did}
use Rattle.zworld.specs.declared.did.Did.TheVariants as became
use Rattle.zworld.specs.declared.did.IdleCause.{IdleCause}
use Rattle.zworld.specs.declared.did.IdleCause.TheVariants as cause
use Rattle.zworld.specs.Held.{Held, world_of}
use Rattle.zworld.specs.Did.{IsCause, is_idle}
use Rattle.zworld.specs.Steps.{WorldView, HasHappened, world_in}
use Rattle.zworld.specs.support.Settled.{HasSettledBy}
use Rattle.zworld.proofs.Steps.{happens_so}
use Rattle.zscript.specs.declared.limits.TheConstants.{MAX_EVENTS}
use Rattle.zscript.specs.Line.{ServiceWorld, ScriptState, script_state, LineEffect, no_effect, after_try}
use Rattle.zscript.specs.Line.{after_settling, call_answered, call_effect, begin_effect, begin_fault_text}
use Rattle.zscript.specs.Line.{not_begun_text, reply_in, taken_text}
use Rattle.zscript.specs.support.Effects.{cause_text, begun_text, called_text, own_call, LeadsTo, IsEffectDoneBy}
use Rattle.zscript_text.specs.Reply.{reply_text}
use Rattle.std.specs.List.{flat_map}
use Rattle.std.proofs.lemmas.List.{append-nil}
use Rattle.zprotocol.specs.world.Reading.{read, is_fitting}
use mathlib.Core.Bool.{true≢false}
use Rattle.zprotocol.proofs.world_lemmas.Settling.{settling_is_a_run}
use Rattle.zscript.proofs.Effects.{enabled, not_enabled, idle_stays, tried_on, event_done}
use Rattle.zprotocol.proofs.world_lemmas.Past.{with_past, run_past}
use Rattle.zworld.specs.Did.{outcome_of}

-- no server takes part in the begin of a call
begin_acted : (w : ServiceWorld) (client : ℕ) (call : Call) (did : Did) → is_fitting cached_tree w (event.Begin client call) (outcome_of did)
    ≡ true → outcome_of did ≡ Acted
begin_acted w client call (became.Idle why) fits = refl
begin_acted w client call became.Done fits = refl
begin_acted w client call became.Unheard fits = absurd (true≢false (sym fits))
begin_acted w client call became.Stopped fits = absurd (true≢false (sym fits))

-- the begin of a call reads as itself
begin_reads : (w : ServiceWorld) (client : ℕ) (call : Call) (outcome : Outcome) → read cached_tree w (event.Begin client call) outcome
    ≡ event.Begin client call
begin_reads w client call Acted = refl
begin_reads w client call other = refl

-- what isn't idle is done
pub active_by : (did : Did) → ((why : IdleCause) → did ≡ became.Idle why → ⊥) → is_idle did ≡ false
active_by (became.Idle why) other = absurd (other why refl)
active_by became.Done other = refl
active_by became.Unheard other = refl
active_by became.Stopped other = refl

-- what a run reports comes after what was reported before
reported_behind : (w : ServiceWorld) (events : List Event) → (more : History) × ((run cached_tree w events).history ≡ w.history ++ more)
reported_behind w events =
    let bare : ServiceWorld = record w { history = [] } in
    let same : w ≡ with_past w.history bare = ap (λ (h : History). record w { history = h }) (sym (append-nil w.history)) in (
      (run cached_tree bare events).history,
      ap (λ (u : ServiceWorld). (run cached_tree u events).history) same
          ∙ ap (λ (u : ServiceWorld). u.history) (run_past cached_tree w.history bare events),
    )

-- a call that began
module _ (v u : ServiceWorld) (client : ℕ) (call : Call) (did : Did) (has : HasHappened v (event.Begin client call) did u)
    (active : is_idle did ≡ false) where
  abbrev begins : Event
  begins = event.Begin client call

  abbrev on : is_enabled v begins ≡ true
  on = enabled v u begins did has active

  -- has the client's next number
  abbrev number : ℕ
  number = (v.clients client).number + 1

  begun : happens cached_tree v begins ≡ u
  begun = subst (λ e. happens cached_tree v e ≡ u) (begin_reads v client call (outcome_of did)) has.leads

  -- and is all that is reported
  begun_reported : v.history ≡ [] → u.history ≡ call_event.Begin client number call ∷ []
  unfolding begin_step
  begun_reported none =
      ap (λ (w : ServiceWorld). w.history) (sym begun ∙ happens_so v begins on)
      ∙ ap (λ (h : History). h ++ call_event.Begin client number call ∷ []) none

  module _ (strict : Bool) (w : ServiceWorld) (settled : Settled) (done : HasSettledBy strict u MAX_EVENTS settled w) where
    abbrev own : Option (ℕ × ℕ)
    own = Some (client, number)

    -- the history begins with it
    own_is : v.history ≡ [] → own_call w.history ≡ own
    own_is none =
        let outcomes = done.0 ++ [] in
        let ran = settle cached_tree u MAX_EVENTS outcomes in
        let behind = reported_behind u ran.events in
        ap own_call
        (ap (λ (x : ServiceWorld). x.history) (sym (done.2 []).2 ∙ settling_is_a_run cached_tree u MAX_EVENTS outcomes)
        ∙ behind.1 ∙ ap (λ (h : History). h ++ behind.0) (begun_reported none))

    module _ (later : List Outcome) where
      abbrev state : ScriptState
      state = script_state v (Acted ∷ done.0 ++ later)

      -- it is settled from the world that was come to
      abbrev settling : Settling (CachedState Tree)
      settling = record { world = u; events = begins ∷ []; left = 0; outcomes = done.0 ++ later }

      tried : after_try state begins ≡ settling
      tried = tried_on v (Acted ∷ done.0 ++ later) begins on ∙ ap (λ (x : ServiceWorld). record settling { world = x }) begun

      abbrev defined : Settling (CachedState Tree)
      defined = after_settling (after_try state begins)

      leads : defined.world ≡ w
      leads = ap (λ (s : Settling (CachedState Tree)). (after_settling s).world) tried ∙ (done.2 later).2

      answered_leads : LeadsTo (call_answered defined own) w own (option_map_or reply_text (reply_in own w.history) (codes "unanswered")) later
      answered_leads = record {
        led = leads;
        left = ap (λ (s : Settling (CachedState Tree)). (after_settling s).outcomes) tried ∙ (done.2 later).1;
        owned = refl;
        answered = ap (λ history. option_map_or reply_text (reply_in own history) (codes "unanswered")) (ap (λ (x : ServiceWorld). x.history) leads);
      }

      call_leads : LeadsTo (call_effect state (record { client = client; call = call })) w own
          (option_map_or reply_text (reply_in own w.history) (codes "unanswered")) later
      call_leads =
          subst (λ (effect : LineEffect). LeadsTo effect w own (option_map_or reply_text (reply_in own w.history) (codes "unanswered")) later)
          (sym (ap (λ b. if b then call_answered defined own else no_effect state
          (not_begun_text state (record { client = client; call = call }))) on))
          answered_leads

    pub call_done : v.history ≡ [] → (writes : List ℕ → Type 0) → writes (called_text w.history)
        → IsEffectDoneBy strict v w (λ s. call_effect s (record { client = client; call = call })) writes
    call_done none writes written = (
      record {
        reported = Acted ∷ done.0;
        own = own;
        result = option_map_or reply_text (reply_in own w.history) (codes "unanswered");
        leads = λ later. call_leads later;
        written =
            subst (λ call. writes (flat_map (taken_text call) w.history ++ option_map_or reply_text (reply_in call w.history) (codes "unanswered")))
            (own_is none) written;
      },
      λ strictly. (refl, done.1 strictly),
    )

-- why a call didn't begin
not_begun : (held : Held) (history : History) (request : Request) (outcomes : List Outcome) (why : IdleCause)
    → IsCause held (event.Begin request.client request.call) why → not_begun_text (script_state (world_of held history) outcomes) request
    ≡ cause_text why
not_begun held history request outcomes (cause.Begin fault) (there, is) = rw there
    (ap (λ fault. option_map_or begin_fault_text fault (codes "idle")) is)
not_begun held history request outcomes cause.Nothing (is, none) = rw none refl
not_begun held history request outcomes (cause.Order fault) (is, none) = let never : ⊥ = cc in absurd never

-- a world in which a call didn't begin has reported nothing
nothing_reported : (v w : ServiceWorld) (event : Event) (why : IdleCause) → HasHappened v event (became.Idle why) w → v.history ≡ [] → w.history ≡ []
nothing_reported v w event why has none = ap (λ (x : ServiceWorld). x.history) (sym (idle_stays v w event why has)) ∙ none

-- a line that is a call, or its begin, which couldn't begin
module _ (strict : Bool) (old new : WorldView) (request : Request) (why : IdleCause) (has : HasHappened (world_in old)
    (event.Begin request.client request.call) (became.Idle why) (world_in new))
    (caused : IsCause old.held (event.Begin request.client request.call) why) (none : old.history ≡ []) where
  not_begun_leads : (later : List Outcome) → LeadsTo (call_effect (script_state (world_in old) later) request) (world_in new)
      None (cause_text why) later
  not_begun_leads later =
      let state = script_state (world_in old) later in
      let begins : Event = event.Begin request.client request.call in
      let number = ((world_in old).clients request.client).number + 1 in
      let idle : LeadsTo (no_effect state (not_begun_text state request)) (world_in new) None (cause_text why) later = record {
        led = idle_stays (world_in old) (world_in new) begins why has;
        left = refl;
        owned = refl;
        answered = not_begun old.held old.history request later why caused;
      } in
      subst (λ (effect : LineEffect). LeadsTo effect (world_in new) None (cause_text why) later)
      (sym (ap (λ b. if b then call_answered (after_settling (after_try state begins)) (Some (request.client, number))
      else no_effect state (not_begun_text state request))
      (not_enabled (world_in old) (world_in new) begins why has)))
      idle

  pub call_not_begun : (writes : List ℕ → Type 0) → writes (cause_text why)
      → IsEffectDoneBy strict (world_in old) (world_in new) (λ s. call_effect s request) writes
  call_not_begun writes written = (
    record {
      reported = [];
      own = None;
      result = cause_text why;
      leads = not_begun_leads;
      written = subst (λ (h : History). writes (flat_map (taken_text None) h ++ cause_text why))
          (sym (nothing_reported (world_in old) (world_in new) _ why has none)) written;
    },
    λ strictly. tt,
  )

  begin_idle : (writes : List ℕ → Type 0) → writes (cause_text why) → IsEffectDoneBy strict (world_in old) (world_in new)
      (λ s. begin_effect s request) writes
  begin_idle writes written =
      event_done (world_in old) (world_in new) (event.Begin request.client request.call) strict (became.Idle why) writes (λ strictly. refl) has
      (λ s. begin_effect s request) (codes "begun") (not_begun_text (script_state (world_in old) []) request) (cause_text why) (λ outcomes. refl)
      (not_begun old.held old.history request [] why caused)
      (subst (λ (h : History). writes (flat_map (taken_text None) h ++ cause_text why))
      (sym (nothing_reported (world_in old) (world_in new) _ why has none)) written)

-- a line that is the begin of a call
begin_active : (strict : Bool) (old new : WorldView) (request : Request) (did : Did) (writes : List ℕ → Type 0)
    → HasHappened (world_in old) (event.Begin request.client request.call) did (world_in new) → is_idle did ≡ false
    → old.history ≡ [] → writes (codes "begun")
    → IsEffectDoneBy strict (world_in old) (world_in new) (λ s. begin_effect s request) writes
begin_active strict old new request did writes has active none written =
    event_done (world_in old) (world_in new) (event.Begin request.client request.call) strict did writes
    (λ strictly. begin_acted (world_in old) request.client request.call did has.fits) has
    (λ s. begin_effect s request) (codes "begun") (not_begun_text (script_state (world_in old) []) request) (codes "begun") (λ outcomes. refl)
    (ap (λ b. if b then not_begun_text (script_state (world_in old) []) request else codes "begun") active)
    (subst (λ (h : History). writes (flat_map (taken_text None) h ++ codes "begun"))
    (sym (begun_reported (world_in old) (world_in new) request.client request.call did has active none)) written)

pub begin_done : (strict : Bool) (old new : WorldView) (request : Request) (did : Did) (writes : List ℕ → Type 0)
    → HasHappened (world_in old) (event.Begin request.client request.call) did (world_in new)
    → ((why : IdleCause) → did ≡ became.Idle why → IsCause old.held (event.Begin request.client request.call) why)
    → old.history ≡ [] → writes (begun_text did)
    → IsEffectDoneBy strict (world_in old) (world_in new) (λ s. begin_effect s request) writes
begin_done strict old new request (became.Idle why) writes has caused none written = begin_idle strict old new request
    why has (caused why refl) none writes written
begin_done strict old new request became.Done writes has caused none written = begin_active strict old new request
    became.Done writes has refl none written
begin_done strict old new request became.Unheard writes has caused none written = begin_active strict old new request
    became.Unheard writes has refl none written
begin_done strict old new request became.Stopped writes has caused none written = begin_active strict old new request
    became.Stopped writes has refl none written
