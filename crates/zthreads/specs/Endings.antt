-- What a clause says of what an endpoint leaves.
use Rattle.std.specs.Prelude.{◌≡◌, false, List, [], length, map}
use Rattle.zprotocol.specs.declared.process.Process.{Process}
use Rattle.zprotocol.specs.server.Machine.{cached_tree}
use Rattle.zprotocol.specs.traces.Deeds.{GoesBy, trace_by, takes, puts, reported_by}
use Rattle.zprotocol.specs.traces.Lawful.{Begins}
use Rattle.zprotocol.specs.Places.{process_at}
use Rattle.zchannels.specs.Rings.{put_of, ring_of_rx, ring_of_tx, taken_of}
use Rattle.zthreads.specs.declared.endpoint.Endpoint.{Endpoint}
use Rattle.zthreads.specs.declared.endpoint.Ending.{Ending}
use Rattle.zthreads.specs.Endpoints.{Accounts, TreeDeed, TreeStanding, TreeTaken, Each, IsOutside, IsSettled, Self, books_of, is_cut_of, is_lost_of, pending, self_of}
use Rattle.zthreads.specs.Untraced.{RecordsNothing}

-- The steps of a process account for what its endpoint left. What they received from each channel
-- is a prefix of what was received there. What was sent is what they sent. They are its trace and
-- its record, unless the trace is cut.
pub record AccountsAtEnd (who : Self) (e : Ending) (deeds : List TreeDeed) : Type 0 where
  pub goes : GoesBy cached_tree who.me who.opening 0 deeds
  pub traced : e.trace.is_cut ≡ false → trace_by deeds ≡ e.trace.events.items
  pub reported : e.trace.is_cut ≡ false → reported_by deeds ≡ e.seen.items
  pub taken : Each (λ i r. Begins (takes (process_at i) deeds) (taken_of r)) e.ins.items
  pub others : (p : Process) → IsOutside p (length e.ins.items) → takes p deeds ≡ []
  pub put : Each (λ i x. put_of x ≡ puts (process_at i) deeds) e.outs.items

-- unless what it did is lost, there are such steps; it is never lost where its trace isn't cut
abbrev pub HasEnded : Self → Ending → Type 0
HasEnded who e = e.is_lost ≡ false → ∥ ((deeds : List TreeDeed) × AccountsAtEnd who e deeds) ∥₁

-- the same, and this holds of these steps
abbrev pub HasEndedBy : Self → Ending → (List TreeDeed → Type 0) → Type 0
HasEndedBy who e P = e.is_lost ≡ false → ∥ ((deeds : List TreeDeed) × AccountsAtEnd who e deeds × P deeds) ∥₁

-- steps that account for the endpoint account for what it leaves, unless that is lost
abbrev pub KeepsAtEnd : Endpoint → Ending → Type 0
KeepsAtEnd d e =
    (s : TreeStanding) (t : TreeTaken) (deeds : List TreeDeed) → e.is_lost ≡ false
    → Accounts (self_of d) (books_of d) s t (pending d) deeds → AccountsAtEnd (self_of d) e deeds

-- if all messages are on their channels, its trace is cut exactly if it was before
abbrev pub IsCutAsBefore : Endpoint → Ending → Type 0
IsCutAsBefore d e = IsSettled d → e.trace.is_cut ≡ is_cut_of d

-- and what it did is lost exactly if it was before
abbrev pub IsLostAsBefore : Endpoint → Ending → Type 0
IsLostAsBefore d e = IsSettled d → e.is_lost ≡ is_lost_of d

-- it leaves no trace and no record, and took no memory for them
abbrev pub LeavesNothing : Ending → Type 0
LeavesNothing e = RecordsNothing e.trace.is_cut e.trace.events e.seen

-- what an endpoint leaves has the ends of the same rings
abbrev pub SameWires : Endpoint → Ending → Type 0
SameWires d e =
    (map ring_of_rx e.ins.items ≡ map ring_of_rx d.ins.items) × (map ring_of_tx e.outs.items ≡ map ring_of_tx d.outs.items)
