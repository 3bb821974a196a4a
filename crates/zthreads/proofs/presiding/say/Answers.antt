use Rattle.std.proofs.Common.{ap, subst}
use Rattle.zchannels.specs.Outcomes.{AreSaid}
use Rattle.zthreads.specs.Outcomes.{unsaid}
use Rattle.zthreads.proofs.Outcomes.{said_more}
use Rattle.zthreads.proofs.presiding.say.Goals as goal

pub returns-in-Ok-clause-said : goal.returns-in-Ok-clause-said
returns-in-Ok-clause-said c are =
    let a = c.args.inbox.now in
    said_more a c.say.new.self c.in-Word.outcome c.say.ensures.taken c.in-Ok.ensures.ok
    (subst (λ orders. AreSaid a orders) (ap (λ o. unsaid o) c.in-Word.is) are)
