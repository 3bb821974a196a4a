use Rattle.zfront.proofs.Asked.{HasAsked}
use Rattle.zfront.proofs.inner.Inner.ask.Given as goal

abbrev pub invariant-loop-call : goal.invariant-loop-call
invariant-loop-call g l = HasAsked l.fn.self l.calls l.call-index l.self l.replies.items
