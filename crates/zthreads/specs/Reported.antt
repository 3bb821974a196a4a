-- What is entered into trace and record, by what became of an input.
use Rattle.std.specs.Prelude.{Option, None, Some}
use Rattle.zcalls.specs.declared.call.Call.{Call}
use Rattle.zprotocol.specs.declared.process.Process.{Process}
use Rattle.zprotocol.specs.declared.process.Process.TheVariants.{Client}
use Rattle.zserver.specs.Server.{TreeMessage}
use Rattle.zprotocol.specs.declared.world.history.CallEvent.{CallEvent}
use Rattle.zprotocol.specs.declared.world.history.CallEvent.TheVariants as call_event
use Rattle.zprotocol.specs.declared.world.outcome.Outcome.TheVariants as outcome
use Rattle.zprotocol.specs.declared.traces.trace.Act.{Act}
use Rattle.zprotocol.specs.declared.traces.trace.Act.TheVariants as act
use Rattle.zactor.specs.declared.done.Done.{Done}
use Rattle.zactor.specs.declared.done.Done.TheVariants.{Unheard, Stopped, Left, Began, Answered}
use Rattle.zthreads.specs.Steps.{answer_event}

-- what the caller may see of a message that a process receives
abbrev pub reported_at : Process → TreeMessage → Option CallEvent
reported_at (Client c) m = answer_event c m
reported_at p m = None

-- what is entered of a message, by what became of it
abbrev pub act_heard : Process → Done → Act
act_heard from Unheard = act.Took from outcome.Unheard
act_heard from Stopped = act.Took from outcome.Stopped
act_heard from Left = act.Left
act_heard from done = act.Took from outcome.Acted

abbrev pub reported_heard : Option CallEvent → Done → Option CallEvent
reported_heard reported (Answered number) = reported
reported_heard reported done = None

-- and of a call
abbrev pub reported_begun : Process → Call → Done → Option CallEvent
reported_begun (Client c) call (Began number) = Some (call_event.Begin c number call)
reported_begun p call done = None
