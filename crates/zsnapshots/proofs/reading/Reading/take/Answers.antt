use Rattle.std.proofs.Common.{subst}
use Rattle.zsnapshots.specs.States.{ReadingView}
use Rattle.zsnapshots.specs.support.Reading.{IsReading}
use Rattle.zsnapshots.proofs.Reported.{never_refuses}
use Rattle.zsnapshots.proofs.reading.Reading.take.Goals as goal

pub returns-clause-only : goal.returns-clause-only
returns-clause-only c =
    let i = c.self.inside in
    let r = c.args.self.now in
    let is = subst (λ (r : ReadingView). IsReading r.header r.state i.sessions i.nodes i.replies i.session i.path i.client)
    c.self.view_is c.self.invariant in
    never_refuses r.header r.state i.sessions i.nodes i.replies i.session i.path i.client is c.args.bytes.now
    (λ rest. rest.now) c.take_next.new.self c.take_next.result c.take_next.ensures.taken c.take_next.ensures.fault
