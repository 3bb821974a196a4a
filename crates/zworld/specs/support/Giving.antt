-- What becomes of an input that is given to a process.
use Rattle.std.specs.Prelude.{◌≡◌, ◌<◌, ℕ, true, false, Option, None, Some, [], ◌∷◌, ◌++◌}
use Rattle.zprotocol.specs.declared.limits.TheConstants.{PROCESSES}
use Rattle.zcalls.specs.declared.reply.Reply.{Reply}
use Rattle.zprotocol.specs.declared.process.Process.{Process}
use Rattle.zprotocol.specs.declared.process.Process.TheVariants.{Client}
use Rattle.zprotocol.specs.Places.{place_of}
use Rattle.zactor.specs.Acting.{TreeStanding, can_come, can_stand, effect_of, has_stopped, input_of, read, refusal_of, reported_by}
use Rattle.zactor.specs.declared.act_fault.ActFault.{ActFault}
use Rattle.zactor.specs.declared.act_fault.ActFault.TheVariants.{Refused, Memory}
use Rattle.zactor.specs.declared.done.Done.{Done}
use Rattle.zactor.specs.declared.done.Done.TheVariants as done
use Rattle.zactor.specs.declared.input.Input.{Input}
use Rattle.zactor.specs.declared.input.Input.TheVariants.{Stop}
use Rattle.zprotocol.specs.declared.world.history.CallEvent.TheVariants as call_event
use Rattle.zprotocol.specs.world.Does.{accepts}
use Rattle.zprotocol.specs.world.Events.{did_in, standing_of}
use Rattle.zprotocol.specs.world.History.{History}
use Rattle.zprotocol.specs.world.support.Alike.{IsAlike}
use Rattle.zworld.specs.declared.did.Did.{Did}
use Rattle.zworld.specs.declared.did.Did.TheVariants as did
use Rattle.zworld.specs.Held.{Held, kept_world, standing_at}

-- the standing of a process in the world that is held
abbrev pub held_standing : Held → Process → TreeStanding
held_standing held process = standing_of (kept_world held []) process

-- a process was given an input, and this became of it: it followed its definition
pub record IsGiven (old new : Held) (process : Process) (input : Input) (done : Done) : Type 0 where
  -- there is such a process, and it hadn't stopped
  pub inside : place_of process < PROCESSES
  pub lives : has_stopped (standing_at old.actors process) ≡ false
  -- it can come, and the input was accepted
  pub comes : can_come (held_standing old process) input done ≡ true
  pub accepted : accepts process (read input done) (held_standing old process) ≡ true
  -- the world of the definition is this one, whatever the history before it
  pub leads : (history : History)
      → IsAlike (did_in (kept_world old history) process (effect_of process (held_standing old process) input done))
      (kept_world new (history ++ reported_by process input done))

-- a process wasn't given an input: it refused it, and nothing changed; or memory ran out, and the
-- input was one that it accepts, and not a request to stop
abbrev pub IsNotGiven : Held → Held → Process → Input → ActFault → Type 0
IsNotGiven old new process input (Refused why) =
    (can_stand process (standing_at old.actors process) ≡ true) × (refusal_of (standing_at old.actors process) input ≡ Some why) × (new ≡ old)
IsNotGiven old new process input Memory =
    (accepts process (input_of input) (held_standing old process) ≡ true) × (input ≡ Stop → ⊥)

-- the number of a call that began
abbrev pub begun_number : Done → Option ℕ
begun_number (done.Began number) = Some number
begun_number other = None

-- what became of a delivery
abbrev pub did_of : Done → Did
did_of done.Unheard = did.Unheard
did_of done.Stopped = did.Stopped
did_of other = did.Done

-- what callers see of a delivery, where this reply was returned
abbrev pub reported_with : Process → Done → Option Reply → History
reported_with (Client c) (done.Answered number) (Some reply) = call_event.Answer c number reply ∷ []
reported_with to end given = []

-- what callers see of a delivery was appended, and this became of it
abbrev pub IsReportedOf : History → Done → History → History → Did → Type 0
IsReportedOf reported end before after became = (after ≡ before ++ reported) × (became ≡ did_of end)
