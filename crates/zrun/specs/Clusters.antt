-- What a clause says of a cluster.
use Rattle.std.specs.Prelude.{ℕ, Bool, List}
use Rattle.zthreads.specs.declared.endpoint.Endpoint.{Endpoint}
use Rattle.zrun.specs.declared.cluster.Cluster.{Cluster}
use Rattle.zrun.specs.declared.opening.Opening.{Opening}
use Rattle.zrun.specs.Handles.{given_endpoints}
use Rattle.zrun.specs.Origins.{Run}

-- its initial state: the last server of its chain, and the number of its clients
abbrev pub cluster_opening : Cluster → Opening
cluster_opening c = c.opening

abbrev pub last_server : Cluster → ℕ
last_server c = c.opening.last

abbrev pub client_count : Cluster → ℕ
client_count c = c.opening.clients

-- the run to which it belongs
abbrev pub cluster_run : Cluster → Run
cluster_run c = c.run.value.items

-- the endpoints that its processes were started with, by index
abbrev pub cluster_endpoints : Cluster → List Endpoint
cluster_endpoints c = given_endpoints c.master c.servers.items c.run.value.items

-- whether its processes have traces
abbrev pub cluster_is_traced : Cluster → Bool
cluster_is_traced c = c.opening.is_traced
