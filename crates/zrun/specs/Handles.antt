-- What a run's threads were started with.
use Rattle.std.specs.Prelude.{List, ◌∷◌, ◌++◌, map}
use Rattle.std.specs.declared.thread.PromisedHandle.{PromisedHandle}
use Rattle.zchannels.specs.declared.console.Inbox.{Inbox}
use Rattle.zthreads.specs.declared.endpoint.Endpoint.{Endpoint}
use Rattle.zthreads.specs.declared.server_thread.ServerThread.{ServerThread}
use Rattle.zthreads.specs.declared.master_thread.MasterThread.{MasterThread}
use Rattle.zthreads.specs.Owned.{master_endpoint, server_endpoint}
use Rattle.zrun.specs.declared.promises.SameServer.{SameServer}
use Rattle.zrun.specs.declared.promises.SameMaster.{SameMaster}
use Rattle.zrun.specs.Origins.{client_endpoints, Run}

abbrev pub ServerHandle : Type 0
ServerHandle = PromisedHandle ServerThread SameServer

abbrev pub MasterHandle : Type 0
MasterHandle = PromisedHandle (MasterThread × Inbox) SameMaster

-- the endpoint that a thread was started with
abbrev pub given_server : ServerHandle → Endpoint
given_server h = server_endpoint h.promise.0.value

abbrev pub given_master : MasterHandle → Endpoint
given_master h = master_endpoint h.promise.0.value

-- the endpoints of all processes, by index
abbrev pub given_endpoints : MasterHandle → List ServerHandle → Run → List Endpoint
given_endpoints master servers run = given_master master ∷ (map given_server servers ++ client_endpoints run)
