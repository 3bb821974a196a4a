use Rattle.std.proofs.Common.{List, ◌∷◌, ◌++◌, sym, subst}
use Rattle.zthreads.specs.declared.endpoint.Endpoint.{Endpoint}
use Rattle.zrun.specs.Openings.{IsRunFrom}
use Rattle.zrun.specs.Origins.{client_endpoints}
use Rattle.zrun.proofs.cluster.Cluster.start_over.Goals as goal

pub invariant_of-result : goal.invariant_of-result
invariant_of-result g c =
    let run = client_endpoints c.args.posts.run.value.items in
    record {
      all = c.in-Ok-start_servers.ensures.count;
      count = c.requires.count;
      wired = subst (λ (w : Endpoint × List Endpoint). IsRunFrom c.args.opening (w.0 ∷ (w.1 ++ run)))
          (λ k. (sym c.in-Ok.ensures.given k, sym c.in-Ok-start_servers.ensures.given k)) c.requires.run;
    }
