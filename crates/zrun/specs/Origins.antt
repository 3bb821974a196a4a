-- Who a client is, and of which run.
use Rattle.std.specs.Prelude.{◌≡◌, ℕ, Bool, List, map}
use mathlib.Core.Option.{some}
use lib.ListN.{get_elem?}
use Rattle.zprotocol.specs.declared.process.Process.{Process}
use Rattle.zchannels.specs.Rings.{Ring}
use Rattle.zthreads.specs.declared.endpoint.Endpoint.{Endpoint}
use Rattle.zthreads.specs.Endpoints.{is_traced_of, link_count, process_of}
use Rattle.zthreads.specs.Callers.{caller_endpoint}
use Rattle.zrun.specs.declared.posts.ClientPost.{ClientPost}
use Rattle.zrun.specs.Runs.{in_rings_of, out_rings_of}

-- who a process is, in which run, on which rings it receives and sends, and whether it has a trace:
-- no call changes it
pub record Wiring : Type 0 where
  pub me : Process
  pub last : ℕ
  pub clients : ℕ
  pub traced : Bool
  pub links : ℕ
  pub ins : List Ring
  pub outs : List Ring

abbrev pub endpoint_wiring : Endpoint → Wiring
endpoint_wiring d = record {
  me = process_of d;
  last = d.last;
  clients = d.clients;
  traced = is_traced_of d;
  links = link_count d;
  ins = in_rings_of d;
  outs = out_rings_of d;
}

-- a run, given by its clients
abbrev pub Run : Type 0
Run = List ClientPost

-- the endpoints that they were made with
abbrev pub client_endpoints : Run → List Endpoint
client_endpoints run = map (λ (p : ClientPost). caller_endpoint p.caller) run

-- the client of that number is the one with this wiring
abbrev pub IsOneOf : Run → ℕ → Wiring → Type 0
IsOneOf run number wiring = get_elem? (map endpoint_wiring (client_endpoints run)) number ≡ some wiring
