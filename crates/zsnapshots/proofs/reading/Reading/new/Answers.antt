use Rattle.zsnapshots.proofs.Rooted.{root_never_refuses}
use Rattle.zsnapshots.proofs.reading.Reading.new.Goals as goal

pub returns-clause-only : goal.returns-clause-only
returns-clause-only c =
    root_never_refuses c.args.header c.args.bytes.now (λ x. x.1.now) (λ x. x.0) c.begun.result c.begun.ensures.taken c.begun.ensures.fault
