use Rattle.std.proofs.Common.{ap}
use Rattle.crossbeam_channel.specs.Claims.{view}
use Rattle.zchannels.proofs.Orders.{begins, forks}
use Rattle.zchannels.proofs.console.Console.open.Goals as goal

pub bounded_with-requires-clause-rule : goal.bounded_with-requires-clause-rule
bounded_with-requires-clause-rule c = begins

pub another-other-requires-clause-rule : goal.another-other-requires-clause-rule
another-other-requires-clause-rule c =
    let e = c.in_ok-to.ensures.3 in
    forks c.in_ok-to.pass.id (view c.in_ok-to.pass) (ap (λ v. v.puts) e) (ap (λ v. v.takes) e)
