-- The outcome of an audit: a run of the world that the traces describe, or why there is none.
use Rattle.std.specs.Prelude.{◌≡◌, ◌⊎◌, ℕ, Bool, true, false, ◌||◌, nat_lt, List}
use Rattle.std.specs.List.{list_any}
use Rattle.ztree.specs.Tree.{Tree}
use Rattle.zcalls.specs.Cached.{CachedState}
use Rattle.zprotocol.specs.declared.process.Process.{Process}
use Rattle.zprotocol.specs.server.Machine.{cached_tree}
use Rattle.zprotocol.specs.world.History.{History}
use Rattle.zprotocol.specs.world.World.{World, opening_world}
use Rattle.zprotocol.specs.world.Events.{run}
use Rattle.zprotocol.specs.declared.traces.trace.Trace.{Trace}
use Rattle.zprotocol.specs.declared.traces.trace.ClientTrace.{ClientTrace}
use Rattle.zprotocol.specs.declared.traces.trace.Traces.{Traces}
use Rattle.zprotocol.specs.traces.Traces.{Step, trace_of, record_of, client_count, reported_of, AgreesWithRecords, IsMerge, BeginsMerge, stamps_rise, are_in_place, events_of}

-- one of the traces is cut
abbrev pub is_any_cut : Traces → Bool
is_any_cut t =
    t.master.is_cut
    || (list_any (λ (trace : Trace). trace.is_cut) t.servers.items || list_any (λ (client : ClientTrace). client.trace.is_cut) t.clients.items)

-- the world in the initial state of the traces' run, and after steps
abbrev pub opening_of : Traces → World (CachedState Tree)
opening_of t = opening_world cached_tree t.last (client_count t)

abbrev pub world_after_steps : Traces → List Step → World (CachedState Tree)
world_after_steps t steps = run cached_tree (opening_of t) (events_of steps)

-- the merge of the traces, whose timestamps rise, is a run in which each event is allowed
pub record IsRunOf (t : Traces) (steps : List Step) : Type 0 where
  pub rise : (p : Process) → stamps_rise (trace_of t p) ≡ true
  pub merge : IsMerge t steps
  pub in_place : are_in_place cached_tree (opening_of t) steps ≡ true

-- it has this history, which agrees with each client's record
pub record IsFound (t : Traces) (history : History) : Type 0 where
  pub steps : List Step
  pub run : IsRunOf t steps
  pub reported : (world_after_steps t steps).history ≡ history
  pub agrees : AgreesWithRecords t history

-- the timestamps of a trace don't rise
abbrev pub HasFallingStamp : Traces → Type 0
HasFallingStamp t = (p : Process) × (stamps_rise (trace_of t p) ≡ false)

-- the traces are no run: timestamps don't rise, or an event isn't allowed in the run of those
-- before it
abbrev pub IsDisordered : Traces → Type 0
IsDisordered t =
    HasFallingStamp t
    ⊎ ((steps : List Step) × BeginsMerge t steps × (are_in_place cached_tree (opening_of t) steps ≡ false))

-- they are a run, but a client's record differs from its history
abbrev pub IsMismatched : Traces → Type 0
IsMismatched t =
    (steps : List Step) × IsRunOf t steps × (c : ℕ) × (nat_lt c (client_count t) ≡ true) × (reported_of c (world_after_steps t steps).history ≡ record_of t c → ⊥)
