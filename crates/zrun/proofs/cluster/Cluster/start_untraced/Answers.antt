use Rattle.std.proofs.Common.{subst}
use Rattle.zrun.specs.Clusters.{cluster_endpoints}
use Rattle.zrun.specs.declared.opening.Opening.{Opening}
use Rattle.zrun.specs.Runs.{AreTraced}
use Rattle.zrun.proofs.cluster.Cluster.start_untraced.Goals as goal

pub returns-clause-untraced : goal.returns-clause-untraced
returns-clause-untraced g c =
    let cluster = c.in_ok-cluster.cluster in
    subst (λ (o : Opening). AreTraced o.is_traced (cluster_endpoints cluster)) c.in_ok-cluster.ensures.opening cluster.wired.1
