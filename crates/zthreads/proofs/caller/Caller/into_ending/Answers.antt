use mathlib.Core.Logic.{∥∥₁_map}
use Rattle.std.proofs.Common.{subst}
use Rattle.zthreads.specs.Endpoints.{Accounts, books_of, pending, self_of, TreeStanding}
use Rattle.zthreads.proofs.Roles.{client_stood}
use Rattle.zthreads.proofs.caller.Caller.into_ending.Goals as goal

pub returns-clause-steps : goal.returns-clause-steps
returns-clause-steps c lost =
    let h = c.args.self.host in
    let is = client_stood c.args.self.id h.endpoint h.actor h.learnt h.front c.args.self.is_client h.hosted in
    ∥∥₁_map (c.into_ending.ensures.steps lost) (λ x. (
      x.0,
      x.1,
      subst (λ (s : TreeStanding). Accounts (self_of h.endpoint) (books_of h.endpoint) s h.front (pending h.endpoint) x.0) is x.2,
    ))
