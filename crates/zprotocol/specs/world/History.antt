-- The history of a run: what callers see of it, the calls and their responses, in the order of
-- events.
use Rattle.std.specs.Prelude.{List}
use Rattle.zcalls.specs.declared.call.Call.{Call}
use Rattle.zcalls.specs.declared.call.Call.TheVariants.{Update, Query}
use Rattle.zcalls.specs.declared.reply.Reply.{Reply}
use Rattle.zprotocol.specs.declared.world.history.CallEvent.{CallEvent}
use Rattle.zprotocol.specs.declared.world.history.CallEvent.TheVariants.{Begin, Answer}
use Rattle.zcalls.specs.Lists.{Among, ComesBefore}
use Rattle.zcalls.specs.Operation.{Operation}

-- invocations and responses, the first event first
abbrev pub History : Type 0
History = List CallEvent

-- the call may change something
abbrev pub IsUpdate : Call → Type 0
IsUpdate (Update update) = Unit {0}
IsUpdate (Query query) = ⊥

-- the operation was invoked
abbrev pub HasBegun : History → Operation → Type 0
HasBegun history o = Among (Begin o.client o.number o.call) history

-- the operation was answered, with some reply
abbrev pub IsAnswered : History → Operation → Type 0
IsAnswered history o = (reply : Reply) × Among (Answer o.client o.number reply) history

-- the response to the first operation comes before the invocation of the second
abbrev pub EndsBefore : History → Operation → Operation → Type 0
EndsBefore history a b = (reply : Reply) × ComesBefore (Answer a.client a.number reply) (Begin b.client b.number b.call) history
