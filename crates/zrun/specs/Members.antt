-- What a clause says of the clients of a run.
use Rattle.std.specs.Prelude.{◌≡◌, ◌<◌, ℕ, Bool, true, false, List, Option, None, Some, IsSome, get_or, map}
use Rattle.zprotocol.specs.declared.process.Process.{Process}
use Rattle.zprotocol.specs.declared.process.Process.TheVariants as process
use Rattle.zprotocol.specs.declared.traces.trace.ClientTrace.{ClientTrace}
use Rattle.zprotocol.specs.declared.traces.trace.Traces.{Traces}
use Rattle.zprotocol.specs.traces.Traces.{record_of, trace_of}
use Rattle.zthreads.specs.Endpoints as endpoint
use Rattle.zrun.specs.declared.client.Client.{Client}
use Rattle.zrun.specs.declared.clients.Clients.{Clients}
use Rattle.zrun.specs.Origins.{Run}
use Rattle.zrun.specs.Clients.{AccountsFor, client_endpoint}

-- the slot of each client, by number
abbrev pub places_of : Clients → List (Option Client)
places_of cs = cs.places.items

-- the client of that number, if it is there
abbrev pub client_at : Clients → ℕ → Option Client
client_at cs i = get_or cs.places.items i None

-- the run to which they belong
abbrev pub clients_run : Clients → Run
clients_run cs = cs.run.value.items

-- the clients of the first n numbers are all there
abbrev pub HasAll : ℕ → Clients → Type 0
HasAll n cs = (i : ℕ) → i < n → IsSome (client_at cs i)

-- whether a client's trace is cut
abbrev pub is_cut_client : Traces → ℕ → Bool
is_cut_client t i = get_or (map (λ (c : ClientTrace). c.trace.is_cut) t.clients.items) i false

-- the client's trace and record are in the traces of the run, where the trace is cut if it was cut;
-- the trace of one that isn't there is cut
abbrev pub IsReported : Traces → ℕ → Option Client → Type 0
IsReported t i None = is_cut_client t i ≡ true
IsReported t i (Some c) =
    (trace_of t (process.Client i) ≡ endpoint.trace_of (client_endpoint c))
    × (record_of t i ≡ endpoint.seen_of (client_endpoint c))
    × (endpoint.is_cut_of (client_endpoint c) ≡ true → is_cut_client t i ≡ true)

-- the steps of each client that is there account for it as it is
abbrev pub AccountForAll : Clients → (Process → List endpoint.TreeDeed) → Type 0
AccountForAll cs deeds = (i : ℕ) (c : Client) → client_at cs i ≡ Some c → AccountsFor c (deeds (process.Client i))

abbrev pub AreReported : ℕ → Traces → Clients → Type 0
AreReported n t cs = (i : ℕ) → i < n → IsReported t i (client_at cs i)
