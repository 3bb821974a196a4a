-- What a thread owns.
use Rattle.std.specs.Prelude.{Bool}
use Rattle.zprotocol.specs.master.View.{MasterView}
use Rattle.zactor.specs.Acting.{has_stopped}
use Rattle.zthreads.specs.declared.endpoint.Endpoint.{Endpoint}
use Rattle.zthreads.specs.Hosts.{host_endpoint, host_standing}
use Rattle.zthreads.specs.Standings.{master_known}
use Rattle.zthreads.specs.declared.server_thread.ServerThread.{ServerThread}
use Rattle.zthreads.specs.declared.master_thread.MasterThread.{MasterThread}

-- its endpoint
abbrev pub server_endpoint : ServerThread → Endpoint
server_endpoint t = host_endpoint t.host

abbrev pub master_endpoint : MasterThread → Endpoint
master_endpoint t = host_endpoint t.host

-- what the master knows
abbrev pub master_view : MasterThread → MasterView
master_view t = master_known (host_standing t.host)

-- whether it has ended: it was halted, it left, or it stopped
abbrev pub is_over_of : ServerThread → Bool
is_over_of t = has_stopped (host_standing t.host)
