-- What a clause says of processes in the initial state, and of their channels.
use Rattle.std.specs.Prelude.{◌≡◌, ◌+◌, List, length, map}
use Rattle.zprotocol.specs.declared.limits.TheConstants.{MAX_SERVERS}
use Rattle.zprotocol.specs.declared.process.Process.{Process}
use Rattle.zchannels.specs.Rings.{Ring, ring_of_rx, ring_of_tx}
use Rattle.zthreads.specs.declared.endpoint.Endpoint.{Endpoint}
use Rattle.zthreads.specs.Endpoints.{AreFreshIns, AreFreshOuts, IsEndpointOf}
use Rattle.zrun.specs.declared.opening.Ends.{Ends}
use Rattle.zrun.specs.declared.opening.Opening.{Opening}
use Rattle.zrun.specs.Runs.{AreEndpoints, AreTraced, in_rings_of, IsRun, out_rings_of}

-- it is the endpoint of that process in a run with that initial state
abbrev pub IsEndpointAt : Opening → Process → Endpoint → Type 0
IsEndpointAt opening p d = IsEndpointOf p opening.last opening.clients d

-- they are the endpoints of its servers, of its clients, or of all its processes, traced as it says
abbrev pub AreServerEndpoints : Opening → List Endpoint → Type 0
AreServerEndpoints opening endpoints = AreEndpoints opening.last opening.clients 1 endpoints

abbrev pub AreClientEndpoints : Opening → List Endpoint → Type 0
AreClientEndpoints opening endpoints = AreEndpoints opening.last opening.clients (MAX_SERVERS + 1) endpoints

abbrev pub IsRunFrom : Opening → List Endpoint → Type 0
IsRunFrom opening endpoints = IsRun opening.last opening.clients endpoints × AreTraced opening.is_traced endpoints

-- nothing was sent on them, and there are as many from others as to others
abbrev pub AreFresh : Ends → Type 0
AreFresh e = (length e.ins.items ≡ length e.outs.items) × AreFreshIns e.ins.items × AreFreshOuts e.outs.items

-- the rings to others, and those from others
abbrev pub out_rings_in : Ends → List Ring
out_rings_in e = map ring_of_tx e.outs.items

abbrev pub in_rings_in : Ends → List Ring
in_rings_in e = map ring_of_rx e.ins.items

-- the endpoint has these channels
abbrev pub HasEnds : Ends → Endpoint → Type 0
HasEnds e d = (out_rings_of d ≡ out_rings_in e) × (in_rings_of d ≡ in_rings_in e)
