-- What a clause says of a cluster without traces.
use Rattle.std.specs.Prelude.{ℕ, false, List}
use Rattle.zprotocol.specs.declared.process.Process.{Process}
use Rattle.zthreads.specs.declared.endpoint.Ending.{Ending}
use Rattle.zthreads.specs.Endpoints.{Each, TreeDeed}
use Rattle.zthreads.specs.Endings.{LeavesNothing, SameWires}
use Rattle.zrun.specs.Gone.{Went}
use Rattle.zrun.specs.Members.{AccountForAll}
use Rattle.zrun.specs.declared.clients.Clients.{Clients}
use Rattle.zrun.specs.declared.untraced.Untraced.{Untraced}
use Rattle.zrun.specs.Clusters.{client_count, cluster_endpoints, cluster_run, last_server}
use Rattle.zrun.specs.Origins.{Run}
use Rattle.zrun.specs.Runs.{AreTraced, Pairs}

-- the last server of its initial chain, the number of its clients, and the run to which it belongs
abbrev pub untraced_last : Untraced → ℕ
untraced_last u = last_server u.cluster

abbrev pub untraced_count : Untraced → ℕ
untraced_count u = client_count u.cluster

abbrev pub untraced_run : Untraced → Run
untraced_run u = cluster_run u.cluster

-- no process of it has a trace or a record
abbrev pub KeepsNoTrace : Untraced → Type 0
KeepsNoTrace u = AreTraced false (cluster_endpoints u.cluster)

-- Its processes left their ends of its channels, with no trace and no record. There are steps of
-- each, by its table from the initial state, that sent and received what those ends say. What each
-- received from another, that one sent. The steps of each client account for it as it was handed
-- in: they led to its view and last timestamp, and sent and received what it had.
abbrev pub RanLawfully : Untraced → Clients → Type 0
RanLawfully u clients =
    (endings : List Ending) × (deeds : Process → List TreeDeed)
    × Pairs SameWires (cluster_endpoints u.cluster) endings
    × Each (λ i e. LeavesNothing e) endings
    × Went (untraced_last u) (untraced_count u) endings deeds
    × AccountForAll clients deeds
