-- The traces by position, the master's first, then the servers', then the clients'; and how far
-- each was read.
use Rattle.std.specs.Prelude.{◌≡◌, ◌⊎◌, ◌<◌, ◌≤◌, ℕ, zero, suc, ◌+◌, ◌-◌, true, false, ◌==◌, nat_lt, nat_le, if◌then◌else◌, List, [], ◌∷◌, Option, None, Some, length, get_or, drop}
use Rattle.zprotocol.specs.declared.process.Process.{Process}
use Rattle.zprotocol.specs.declared.process.Process.TheVariants.{Master, Server, Client}
use Rattle.zprotocol.specs.declared.traces.trace.TraceEvent.{TraceEvent}
use Rattle.zprotocol.specs.declared.traces.trace.Traces.{Traces}
use Rattle.ztree.specs.Tree.{Tree}
use Rattle.zcalls.specs.Cached.{CachedState}
use Rattle.zprotocol.specs.server.Machine.{cached_tree}
use Rattle.zprotocol.specs.world.World.{World}
use Rattle.zprotocol.specs.traces.Traces.{Step, trace_of, Merges, BeginsMerge, are_in_place}
use Rattle.zprotocol.specs.traces.Audit.{opening_of, world_after_steps}

-- how many traces there are
abbrev pub place_count : Traces → ℕ
place_count t = 1 + length t.servers.items + length t.clients.items

-- whose trace it is
abbrev pub process_at : Traces → ℕ → Process
process_at t place =
    if place == 0 then Master else
    if nat_le place (length t.servers.items) then Server place else
    Client (place - (1 + length t.servers.items))

-- the position of a process's trace
abbrev pub index_of : Traces → Process → ℕ
index_of t Master = 0
index_of t (Server s) = s
index_of t (Client c) = 1 + length t.servers.items + c

-- what is left of the traces
abbrev pub rest_of : Traces → List ℕ → Process → List TraceEvent
rest_of t read p = drop (get_or read (index_of t p) 0) (trace_of t p)

-- the timestamp of the next event, if there is one
abbrev pub stamp_at_front : List TraceEvent → Option ℕ
stamp_at_front [] = None
stamp_at_front (e ∷ more) = Some e.stamp

abbrev pub head_at : Traces → List ℕ → ℕ → Option ℕ
head_at t read place = stamp_at_front (drop (get_or read place 0) (trace_of t (process_at t place)))

-- the lesser of the best so far and one more
abbrev pub chosen : Option (ℕ × ℕ) → ℕ → Option ℕ → Option (ℕ × ℕ)
chosen best place None = best
chosen None place (Some stamp) = Some (place, stamp)
chosen (Some best) place (Some stamp) = if nat_lt stamp best.1 then Some (place, stamp) else Some best

-- of the positions below n, none has an event left; or this one has the next, with this timestamp
abbrev pub IsLeast : Traces → List ℕ → ℕ → Option (ℕ × ℕ) → Type 0
IsLeast t read n None = (j : ℕ) → j < n → head_at t read j ≡ None
IsLeast t read n (Some best) =
    (best.0 < n) × (head_at t read best.0 ≡ Some best.1)
    × ((j s : ℕ) → j < n → head_at t read j ≡ Some s → (best.1 < s) ⊎ ((s ≡ best.1) × (best.0 ≤ j)))

-- how many events are left at the positions below n
abbrev pub unread : Traces → List ℕ → ℕ → ℕ
unread t read zero = 0
unread t read (suc n) = (length (trace_of t (process_at t n)) - get_or read n 0) + unread t read n

-- so far these steps were replayed, each was allowed, and they led to this world
abbrev pub HasReplayed : Traces → List ℕ → World (CachedState Tree) → Type 0
HasReplayed t read w =
    (steps : List Step) × Merges (trace_of t) steps (rest_of t read) × (are_in_place cached_tree (opening_of t) steps ≡ true)
    × (world_after_steps t steps ≡ w)

-- no event is left
abbrev pub IsAllRead : Traces → List ℕ → Type 0
IsAllRead t read = (p : Process) → rest_of t read p ≡ []

-- an event of a prefix of the merge isn't allowed
abbrev pub IsReplayFault : Traces → Type 0
IsReplayFault t = (steps : List Step) × BeginsMerge t steps × (are_in_place cached_tree (opening_of t) steps ≡ false)
