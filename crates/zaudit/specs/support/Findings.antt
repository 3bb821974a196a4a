-- What the checks of traces look for.
use Rattle.std.specs.Prelude.{◌≡◌, ℕ, Bool, true, nat_lt}
use Rattle.std.specs.List.{list_any}
use Rattle.zprotocol.specs.world.History.{History}
use Rattle.zprotocol.specs.declared.traces.trace.Trace.{Trace}
use Rattle.zprotocol.specs.declared.traces.trace.ClientTrace.{ClientTrace}
use Rattle.zprotocol.specs.declared.traces.trace.Traces.{Traces}
use Rattle.zprotocol.specs.traces.Traces.{reported_of, record_of, client_count}

-- the trace of a server is cut
abbrev pub is_any_server_cut : Traces → Bool
is_any_server_cut t = list_any (λ (trace : Trace). trace.is_cut) t.servers.items

-- the trace of a client is cut
abbrev pub is_any_client_cut : Traces → Bool
is_any_client_cut t = list_any (λ (client : ClientTrace). client.trace.is_cut) t.clients.items

-- a client's record differs from the client's events in the history
abbrev pub DiffersFromRecord : Traces → History → Type 0
DiffersFromRecord t history =
    (c : ℕ) × (nat_lt c (client_count t) ≡ true) × (reported_of c history ≡ record_of t c → ⊥)
