-- Lawful traces: each process follows its table, and receives from each channel a prefix of what
-- was sent there.
use Rattle.std.specs.Prelude.{◌≡◌, ℕ, List, ◌++◌}
use Rattle.ztree.specs.Tree.{Tree}
use Rattle.zcalls.specs.Cached.{CachedState}
use Rattle.zprotocol.specs.declared.process.Process.{Process}
use Rattle.zprotocol.specs.declared.process.Process.TheVariants.{Client}
use Rattle.zprotocol.specs.server.Machine.{Does, cached_tree}
use Rattle.zprotocol.specs.world.World.{opening_world}
use Rattle.zprotocol.specs.declared.traces.trace.Traces.{Traces}
use Rattle.zprotocol.specs.traces.Deeds.{Deed, standing_in, GoesBy, trace_by, takes, puts, reported_by}
use Rattle.zprotocol.specs.traces.Traces.{trace_of, record_of, client_count}

-- the first list is a prefix of the second
abbrev pub Begins : {A : Type 0} → List A → List A → Type 0
Begins {A} front whole = (rest : List A) × (whole ≡ front ++ rest)

-- the steps (deeds) of all processes account for the traces
pub record AccountFor {M : Type 0} (machine : Does M) (t : Traces) (deeds : Process → List (Deed M)) : Type 0 where
  -- each process follows its table from the initial state
  pub goes : (p : Process) → GoesBy machine p (standing_in (opening_world machine t.last (client_count t)) p) 0 (deeds p)
  -- the events of its steps are its trace
  pub traced : (p : Process) → trace_by (deeds p) ≡ trace_of t p
  -- what was received from each channel is a prefix of what was sent there
  pub linked : (from to : Process) → Begins (takes from (deeds to)) (puts to (deeds from))
  -- what a client's caller saw is its record
  pub recorded : (c : ℕ) → reported_by (deeds (Client c)) ≡ record_of t c

-- the traces are lawful: there are such steps
abbrev pub AreLawful : Traces → Type 0
AreLawful t = (deeds : Process → List (Deed (CachedState Tree))) × AccountFor cached_tree t deeds
