-- What a clause says of a process with its endpoint that was given an input.
use Rattle.std.specs.Prelude.{◌≡◌, ◌<◌, ℕ, Bool, true, false, [], Option, None, Some, if◌then◌else◌, List}
use Rattle.std.specs.Option.{option_map}
use Rattle.zprotocol.specs.declared.process.Process.{Process}
use Rattle.zprotocol.specs.declared.process.Process.TheVariants.{Client}
use Rattle.zserver.specs.Server.{TreeOut}
use Rattle.zprotocol.specs.declared.world.history.CallEvent.{CallEvent}
use Rattle.zprotocol.specs.world.Does.{last_post}
use Rattle.zprotocol.specs.declared.traces.stamp.TheConstants.{MAX_STAMP}
use Rattle.zprotocol.specs.declared.traces.trace.Act.{Act}
use Rattle.zprotocol.specs.declared.traces.trace.Act.TheVariants as act
use Rattle.zprotocol.specs.traces.Deeds.{IsStamped, stamp_of}
use Rattle.zactor.specs.declared.input.Input.{Input}
use Rattle.zactor.specs.declared.input.Input.TheVariants.{Hear, Begin, Retry, Obey, Stop}
use Rattle.zactor.specs.declared.done.Done.{Done}
use Rattle.zactor.specs.declared.act_fault.ActFault.{ActFault}
use Rattle.zactor.specs.declared.act_fault.ActFault.TheVariants.{Refused, Memory}
use Rattle.zactor.specs.Acting.{can_stand, HasActed, is_end, message_of, refusal_of, reported_by}
use Rattle.zthreads.specs.declared.endpoint.Endpoint.{Endpoint}
use Rattle.zthreads.specs.declared.note.Note.{Note}
use Rattle.zthreads.specs.declared.note.Note.TheVariants.{Heard, Begun, Retried, Ordered, Halted}
use Rattle.zthreads.specs.Endpoints.{HasRoom, IsCutForNeed, IsEntered, IsLostForNeed, Keeps, pending, process_of, SameBooks, stamp_of_endpoint, Stands, TreePost}
use Rattle.zthreads.specs.Endpoints.{TreeStanding, TreeTaken}
use Rattle.zthreads.specs.Reported.{act_heard, reported_at, reported_begun, reported_heard}

-- the state is one of the endpoint's process
abbrev pub Fits : Endpoint → TreeStanding → Type 0
Fits d s = can_stand (process_of d) s ≡ true

-- the message that it received, with this timestamp
abbrev pub took_of : Input → ℕ → TreeTaken
took_of (Hear from m) stamp = Some (from, (stamp, m))
took_of input stamp = None

-- what was received before and after the event: that message, and nothing; or something else, which
-- remains
abbrev pub before_of : Input → ℕ → TreeTaken → TreeTaken
before_of (Hear from m) stamp t = Some (from, (stamp, m))
before_of input stamp t = t

abbrev pub after_of : Input → TreeTaken → TreeTaken
after_of (Hear from m) t = None
after_of input t = t

-- the timestamp of the event can be this one, if it isn't the last
abbrev pub CanBeStamped : Endpoint → Input → ℕ → ℕ → Type 0
CanBeStamped d input stamp next =
    next < MAX_STAMP → IsStamped (process_of d) (stamp_of_endpoint d) (stamp_of (option_map (λ x. x.1) (took_of input stamp))) next

-- posts, with no room for more
abbrev pub only : List TreePost → TreeOut
only posts = record { posts = posts; room = 0 }

-- a process followed its definition: it had nothing to send, and what it put then waits to be sent
abbrev pub ActsAt : Endpoint → TreeStanding → Endpoint → TreeStanding → Input → Done → Type 0
ActsAt a s b s' input done = HasActed (process_of a) s s' input (only []) (only (pending b)) done

-- what it sent that isn't on its channels yet: of a process that has stopped, its failure notice
abbrev pub unsent : Endpoint → Done → List TreePost
unsent d done = if is_end done then last_post else pending d

-- an event that received the message of the input led from one state to another
abbrev pub GoesTo : Endpoint → TreeStanding → Endpoint → TreeStanding → Input → ℕ → List TreePost → Type 0
GoesTo a s b s' input stamp posts =
    (t : TreeTaken) → Stands a s (before_of input stamp t) [] → Stands b s' (after_of input t) posts

-- why nothing was done; a traced process may also be out of memory for its trace
abbrev pub IsUndone : TreeStanding → Input → ActFault → Type 0
IsUndone standing input (Refused why) = refusal_of standing input ≡ Some why
IsUndone standing input Memory = Unit {0}

-- what is noted of an input, for trace and record, before the process is given it
abbrev pub note_of : Process → Input → Note
note_of p (Hear from m) = Heard from (reported_at p m)
note_of p (Begin call) = Begun call call
note_of p Retry = Retried
note_of p (Obey order) = Ordered order
note_of p Stop = Halted

-- what is entered of an input, by its note
abbrev pub act_noted : Note → Done → Act
act_noted (Heard from reported) done = act_heard from done
act_noted (Begun call copy) done = act.Began call
act_noted Retried done = act.Retried
act_noted (Ordered order) done = act.Ordered order
act_noted Halted done = act.Halted

abbrev pub reported_noted : Process → Note → Done → Option CallEvent
reported_noted p (Heard from reported) done = reported_heard reported done
reported_noted p (Begun call copy) done = reported_begun p copy done
reported_noted p note done = None

-- the event was entered, with what the caller saw
abbrev pub EntersDone : Endpoint → Endpoint → Input → Done → Type 0
EntersDone a b input done =
    IsEntered a b (stamp_of_endpoint b) (act_noted (note_of (process_of a) input) done) (reported_by (process_of a) input done)

-- a process in that state was given an input: it followed its definition, and the event was entered
-- with that timestamp. If the process continues, its trace isn't cut without need, and what it did
-- isn't lost
pub record Did (a : Endpoint) (s : TreeStanding) (b : Endpoint) (s' : TreeStanding) (input : Input) (next : ℕ) (done : Done) : Type 0 where
  pub acted : ActsAt a s b s' input done
  pub entered : EntersDone a b input done
  pub stamp : stamp_of_endpoint b ≡ next
  pub whole : is_end done ≡ false → HasRoom a → IsCutForNeed a b next
  pub unlost : is_end done ≡ false → IsLostForNeed a b next

-- nothing was done with the input, and nothing is to be sent
pub record DidNot (a : Endpoint) (s : TreeStanding) (b : Endpoint) (s' : TreeStanding) (input : Input) (why : ActFault) : Type 0 where
  pub fault : IsUndone s input why
  pub kept : s' ≡ s
  pub keeps : Keeps a b
  pub books : SameBooks a b
  pub none : pending b ≡ []

-- the process is a client
abbrev pub is_client : Process → Bool
is_client (Client c) = true
is_client p = false

-- a process other than a client learned no timestamp
abbrev pub LearnsNothing : Process → ℕ → Type 0
LearnsNothing p learnt = is_client p ≡ false → learnt ≡ 0

-- the endpoint is that of a process in this state. It learned that timestamp, and a message that it
-- received may count as still in its ring
pub record IsHosted (d : Endpoint) (s : TreeStanding) (learnt : ℕ) (front : TreeTaken) : Type 0 where
  pub fits : Fits d s
  pub at : Stands d s front (pending d)
  pub reported : LearnsNothing (process_of d) learnt
