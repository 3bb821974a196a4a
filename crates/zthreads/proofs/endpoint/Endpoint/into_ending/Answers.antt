use Rattle.std.proofs.Common.{subst}
use Rattle.zthreads.specs.Endpoints.{Self}
use Rattle.zthreads.specs.Endings.{AccountsAtEnd}
use Rattle.zthreads.proofs.Endings.{same_self_of}
use Rattle.zthreads.proofs.endpoint.Endpoint.into_ending.Goals as goal

pub returns-clause-ended : goal.returns-clause-ended
returns-clause-ended c s t deeds lost a =
    subst (λ (w : Self). AccountsAtEnd w c.leave.result deeds) (same_self_of c.args.self c.settle.new.self c.settle.ensures.same)
    (c.leave.ensures.ended s t deeds lost (c.settle.ensures.steps s t deeds a))
