-- The part of a line's effect that happens on a world, and the text that is written for it.
use Rattle.std.specs.Prelude.{◌≡◌, ℕ, Bool, true, false, List, [], ◌∷◌, ◌++◌, codes, Option, None, Some, String}
use Rattle.std.specs.List.{flat_map}
use Rattle.zprotocol.specs.declared.world.event.Event.{Event}
use Rattle.zprotocol.specs.declared.world.history.CallEvent.TheVariants as call_event
use Rattle.zprotocol.specs.declared.world.outcome.Outcome.{Outcome}
use Rattle.zprotocol.specs.world.History.{History}
use Rattle.zscript_text.specs.declared.request.LineFault.{LineFault}
use Rattle.zscript_text.specs.declared.request.LineFault.TheVariants as line_fault
use Rattle.zscript_text.specs.Texts.{Writes}
use Rattle.zworld.specs.declared.did.Did.{Did}
use Rattle.zworld.specs.declared.did.Did.TheVariants as became
use Rattle.zworld.specs.declared.did.IdleCause.{IdleCause}
use Rattle.zworld.specs.declared.did.IdleCause.TheVariants as cause
use Rattle.zworld.specs.Did.{IsCause, is_short}
use Rattle.zworld.specs.Steps.{WorldView, AreActed, HasHappened, world_in}
use Rattle.zscript.specs.Line.{ServiceWorld, ScriptState, script_state, LineEffect, begin_fault_text, order_fault_name, line_fault_text, taken_text, own_reply_text}

-- the reason why a line was refused was written, and it isn't out of memory
abbrev pub WritesFault : {A : Type 0} → LineFault → String A → String A → Type 0
WritesFault fault before after = (fault ≡ line_fault.Memory → ⊥) × Writes before after (line_fault_text fault)

-- why an event didn't happen
abbrev pub cause_text : IdleCause → List ℕ
cause_text cause.Nothing = codes "idle"
cause_text (cause.Begin fault) = begin_fault_text fault
cause_text (cause.Order fault) = codes "no " ++ order_fault_name fault

-- what became of an event
abbrev pub did_text : Did → List ℕ
did_text (became.Idle why) = cause_text why
did_text other = codes "done"

-- whether a call was invoked, or why not
abbrev pub begun_text : Did → List ℕ
begun_text (became.Idle why) = cause_text why
begun_text other = codes "begun"

-- the lines for all responses that clients received, where the line has no call of its own
abbrev pub taken_lines : History → List ℕ
taken_lines history = flat_map (taken_text None) history

-- the call that a history begins with
abbrev pub own_call : History → Option (ℕ × ℕ)
own_call [] = None
own_call (call_event.Begin client number call ∷ more) = Some (client, number)
own_call (other ∷ more) = None

-- what is written for a call that was invoked and for which the world settled, with this history
abbrev pub called_text : History → List ℕ
called_text history =
    let own = own_call history in
    flat_map (taken_text own) history ++ own_reply_text own history

-- the effect led to a world, and used up no outcome of those that follow
pub record LeadsTo (effect : LineEffect) (new : ServiceWorld) (own : Option (ℕ × ℕ)) (result : List ℕ) (later : List Outcome) : Type 0 where
  pub led : effect.did.world ≡ new
  pub left : effect.did.outcomes ≡ later
  pub owned : effect.own ≡ own
  pub answered : effect.result ≡ result

-- the effect happened from one world to another, with these outcomes, and was answered this way,
-- except for the LF
pub record IsEffectDone (old new : ServiceWorld) (effect : ScriptState → LineEffect) (writes : List ℕ → Type 0) : Type 0 where
  pub reported : List Outcome
  pub own : Option (ℕ × ℕ)
  pub result : List ℕ
  pub leads : (later : List Outcome) → LeadsTo (effect (script_state old (reported ++ later))) new own result later
  pub written : writes (flat_map (taken_text own) new.history ++ result)

-- where it is strict, no server may run out of memory
abbrev pub MayReport : Bool → List Outcome → Type 0
MayReport strict reported = strict ≡ true → AreActed reported

-- the same, strictly or not
abbrev pub IsEffectDoneBy : Bool → (old new : ServiceWorld) → (ScriptState → LineEffect) → (List ℕ → Type 0) → Type 0
IsEffectDoneBy strict old new effect writes = (done : IsEffectDone old new effect writes) × MayReport strict done.reported

-- the effect happened on a world, and its answer was written, except for the LF
abbrev pub Plays : {A : Type 0} → Bool → (ScriptState → LineEffect) → WorldView → WorldView → String A → String A → Type 0
Plays strict effect old new before after = IsEffectDoneBy strict (world_in old) (world_in new) effect (Writes before after)

-- an event was done, and this was written
pub record IsEventDone (strict : Bool) (old new : WorldView) (event : Event) (writes : List ℕ → Type 0) : Type 0 where
  pub did : Did
  pub happened : HasHappened (world_in old) event did (world_in new)
  pub caused : (why : IdleCause) → did ≡ became.Idle why → IsCause old.held event why
  pub written : writes (taken_lines new.history ++ did_text did)
  pub acted : strict ≡ true → is_short did ≡ false
