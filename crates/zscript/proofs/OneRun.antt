-- What lines report is the history of one run.
use Rattle.std.proofs.Common.{◌≡◌, ℕ, ◌+◌, Bool, true, false, if◌then◌else◌, List, [], ◌∷◌, ◌++◌, Some, refl, sym, ap, ◌∙◌, append_assoc}
use Rattle.std.proofs.lemmas.List.{append-nil}
use Rattle.std.specs.Prelude.{Ok, Err, ◌&&◌, nat_lt}
use Rattle.ztree.specs.Tree.{Tree}
use Rattle.ztree.specs.declared.limits.TheConstants.{MAX_CLIENTS}
use Rattle.zcalls.specs.Cached.{CachedState}
use Rattle.zprotocol.specs.server.Machine.{cached_tree}
use Rattle.zprotocol.specs.declared.world.event.Event.{Event}
use Rattle.zprotocol.specs.declared.world.event.Event.TheVariants as event
use Rattle.zprotocol.specs.declared.world.outcome.Outcome.{Outcome}
use Rattle.zprotocol.specs.world.History.{History}
use Rattle.zprotocol.specs.world.World.{opening_world}
use Rattle.zprotocol.specs.world.Events.{is_enabled, happens, run}
use Rattle.zprotocol.specs.world.Reading.{read}
use Rattle.zprotocol.specs.world.Settle.{Settling, opening_settling, next_outcome, with_event, settle}
use Rattle.zprotocol.proofs.world_lemmas.Settling.{settling_is_a_run}
use Rattle.zscript_text.specs.declared.line.Line.{Line}
use Rattle.zscript_text.specs.declared.line.Line.TheVariants as asked
use Rattle.zscript_text.specs.declared.request.Request.{Request}
use Rattle.zscript_text.specs.Request.{Read}
use Rattle.zscript_text.specs.Line.{line_of}
use Rattle.zscript.specs.declared.limits.TheConstants.{MAX_EVENTS}
use Rattle.zscript.specs.Line.{ServiceWorld, ScriptState, LineEffect, opening_script, forgotten, after_try}
use Rattle.zscript.specs.Line.{after_settling, call_effect, not_begun_text, no_effect, call_answered, line_effect}
use Rattle.zscript.specs.Line.{read_effect, effect_of, after, histories}
use Rattle.zprotocol.proofs.world_lemmas.Past.{with_past, run_past}

-- the settling's world is where its events lead from a world
abbrev LeadsFrom : ServiceWorld → Settling (CachedState Tree) → Type 0
LeadsFrom w s = s.world ≡ run cached_tree w s.events

-- runs one after the other
run_append : (w : ServiceWorld) (events more : List Event) → run cached_tree w (events ++ more) ≡ run cached_tree (run cached_tree w events) more
run_append w [] more = refl
run_append w (event ∷ events) more = run_append (happens cached_tree w event) events more

-- a fact of both choices
of_choice : {A : Type 0} (P : A → Type 0) (b : Bool) (x y : A) → P x → P y → P (if b then x else y)
of_choice P true x y first second = first
of_choice P false x y first second = second

-- one event
tried_leads : (s : ScriptState) (event : Event) → LeadsFrom s.world (after_try s event)
tried_leads s event =
    let opening = opening_settling s.world 1 s.outcomes in
    of_choice (LeadsFrom s.world) (nat_lt 0 1 && is_enabled s.world event)
    (with_event cached_tree opening (read cached_tree s.world event (next_outcome s.outcomes))) opening refl refl

-- settling after events
settled_leads : (w : ServiceWorld) (before : Settling (CachedState Tree)) → LeadsFrom w before → LeadsFrom w (after_settling before)
settled_leads w before leads =
    let did = settle cached_tree before.world MAX_EVENTS before.outcomes in
    settling_is_a_run cached_tree before.world MAX_EVENTS before.outcomes
    ∙ ap (λ v. run cached_tree v did.events) leads
    ∙ sym (run_append w before.events did.events)

-- a call
call_leads : (s : ScriptState) (request : Request) → LeadsFrom s.world (call_effect s request).did
call_leads s request =
    let begins = event.Begin request.client request.call in
    of_choice (λ (effect : LineEffect). LeadsFrom s.world effect.did) (is_enabled s.world begins)
    (call_answered (after_settling (after_try s begins)) (Some (request.client, (s.world.clients request.client).number + 1)))
    (no_effect s (not_begun_text s request))
    (settled_leads s.world (after_try s begins) (tried_leads s begins)) refl

-- each line
line_leads : (s : ScriptState) (line : Line) → LeadsFrom s.world (line_effect s line).did
line_leads s (asked.Call request) = call_leads s request
line_leads s (asked.Begin request) = tried_leads s (event.Begin request.client request.call)
line_leads s (asked.Take from to) = tried_leads s (event.Take from to)
line_leads s (asked.Ignore from to) = tried_leads s (event.Ignore from to)
line_leads s (asked.Fail server) = tried_leads s (event.Fail server)
line_leads s (asked.Order order) = tried_leads s (event.Order order)
line_leads s (asked.Retry client) = tried_leads s (event.Retry client)
line_leads s asked.Settle = settled_leads s.world (opening_settling s.world 0 s.outcomes) refl

read_leads : (s : ScriptState) (line : Read Line) → LeadsFrom s.world (read_effect s line).did
read_leads s (Err fault) = refl
read_leads s (Ok line) = line_leads s line

effect_leads : (s : ScriptState) (line : List ℕ) → LeadsFrom s.world (effect_of s line).did
unfolding effect_of
effect_leads s line = read_leads s (line_of line)

-- a world is what is stored of it between two lines, with its history
forgets : (past : History) (w : ServiceWorld) → with_past past w ≡ with_past (past ++ w.history) (forgotten w)
forgets past w = ap (λ (h : History). record w { history = h }) (sym (append-nil (past ++ w.history)))

-- lines that are played from a world, whatever was reported before
runs_from :
    (lines : List (List ℕ)) (s : ScriptState) (past : History) → s.world.history ≡ []
    → (events : List Event) × ((run cached_tree (with_past past s.world) events).history ≡ past ++ histories s lines)
unfolding after
runs_from [] s past none = ([], ap (λ h. past ++ h) none)
runs_from (line ∷ lines) s past none =
    let did = (effect_of s line).did in
    let now : History = past ++ did.world.history in
    let leads : run cached_tree (with_past past s.world) did.events ≡ with_past now (forgotten did.world) =
    run_past cached_tree past s.world did.events ∙ ap (with_past past) (sym (effect_leads s line)) ∙ forgets past did.world in
    let rest = runs_from lines (after s line) now refl in (
      did.events ++ rest.0,
      ap (λ (w : ServiceWorld). w.history) (run_append (with_past past s.world) did.events rest.0)
          ∙ ap (λ (w : ServiceWorld). (run cached_tree w rest.0).history) leads
          ∙ rest.1 ∙ append_assoc past did.world.history (histories (after s line) lines),
    )

-- from the opening
pub lines_report_one_run :
    (servers : ℕ) (outcomes : List Outcome) (lines : List (List ℕ))
    → (events : List Event) × ((run cached_tree (opening_world cached_tree servers MAX_CLIENTS) events).history
    ≡ histories (opening_script servers outcomes) lines)
lines_report_one_run servers outcomes lines = runs_from lines (opening_script servers outcomes) [] refl
