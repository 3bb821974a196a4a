use Rattle.zcluster_laws.proofs.FrontRuns.{every_cluster_front_runs}
use Rattle.zcluster_laws.proofs.laws.every_cluster_front_runs.Goals as goal

pub returns : goal.returns
returns c = every_cluster_front_runs
