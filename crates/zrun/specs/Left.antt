-- What the processes of a run left: the master, the servers by number, and the clients by number.
use Rattle.std.specs.Prelude.{◌≡◌, ℕ, Bool, true, false, ◌||◌, List, ◌∷◌, ◌++◌, length, map}
use Rattle.std.specs.List.{list_any}
use mathlib.Core.Option.{some}
use lib.ListN.{get_elem?}
use Rattle.std.specs.declared.alloc.Global.{Global}
use Rattle.std.specs.declared.vec.Vec.{Vec}
use Rattle.zprotocol.specs.declared.traces.trace.Trace.{Trace}
use Rattle.zprotocol.specs.declared.traces.trace.ClientTrace.{ClientTrace}
use Rattle.zprotocol.specs.declared.traces.trace.Traces.{Traces}
use Rattle.zprotocol.specs.Places.{process_at}
use Rattle.zprotocol.specs.traces.Lawful.{Begins}
use Rattle.zchannels.specs.declared.rings.Tx.{Tx}
use Rattle.zchannels.specs.declared.rings.Rx.{Rx}
use Rattle.zchannels.specs.Rings.{put_of, ring_of_rx, ring_of_tx, taken_of}
use Rattle.zchannels.specs.Woven.{IsWoven}
use Rattle.zthreads.specs.declared.endpoint.Ending.{Ending}
use Rattle.zthreads.specs.Endpoints.{Each, opening_of, Self, TreeStamped}
use Rattle.zthreads.specs.Endings.{HasEnded}

-- all of them, by index
abbrev pub by_place : Ending → List Ending → List Ending → List Ending
by_place master servers clients = master ∷ (servers ++ clients)

-- the process at an index of a run with this many clients, whose chain ends with that server
abbrev pub self_at : ℕ → ℕ → ℕ → Self
self_at last clients i = record { me = process_at i; opening = opening_of last clients (process_at i) }

-- each is what the process of its index left
abbrev pub AreLeft : ℕ → ℕ → List Ending → Type 0
AreLeft last clients endings = Each (λ i e. HasEnded (self_at last clients i) e) endings

-- they have the ends of channels from each of them to each
abbrev pub AreWired : List Ending → Type 0
AreWired endings =
    IsWoven (length endings) (map (λ (e : Ending). map ring_of_tx e.outs.items) endings)
    (map (λ (e : Ending). map ring_of_rx e.ins.items) endings)

-- their channels show that what was received from each is a prefix of what was sent there
pub record AreLinked (endings : List Ending) : Type 0 where
  pub ins : (i : ℕ) (e : Ending) → get_elem? endings i ≡ some e → length e.ins.items ≡ length endings
  pub outs : (i : ℕ) (e : Ending) → get_elem? endings i ≡ some e → length e.outs.items ≡ length endings
  pub links : (i j : ℕ) (a b : Ending) (tx : Tx TreeStamped) (rx : Rx TreeStamped)
      → get_elem? endings i ≡ some a → get_elem? a.outs.items j ≡ some tx
      → get_elem? endings j ≡ some b → get_elem? b.ins.items i ≡ some rx
      → Begins (taken_of rx) (put_of tx)

-- one of their traces is cut
abbrev pub is_left_cut : Ending → List Ending → List Ending → Bool
is_left_cut master servers clients =
    master.trace.is_cut
    || (list_any (λ (e : Ending). e.trace.is_cut) servers || list_any (λ (e : Ending). e.trace.is_cut) clients)

-- what one of them did is lost
abbrev pub is_left_lost : Ending → List Ending → List Ending → Bool
is_left_lost master servers clients =
    master.is_lost || (list_any (λ (e : Ending). e.is_lost) servers || list_any (λ (e : Ending). e.is_lost) clients)

-- they have those ends, unless what one did is lost
abbrev pub AreWiredUnlessLost : Ending → List Ending → List Ending → Type 0
AreWiredUnlessLost master servers clients =
    is_left_lost master servers clients ≡ false → AreWired (by_place master servers clients)

-- they have those ends, unless one trace is cut
abbrev pub AreWiredUnlessCut : Ending → List Ending → List Ending → Type 0
AreWiredUnlessCut master servers clients =
    is_left_cut master servers clients ≡ false → AreWired (by_place master servers clients)

-- where one is cut, the master's trace is cut only if it was cut before
abbrev pub CutsNoMore : Ending → List Ending → List Ending → Traces → Type 0
CutsNoMore master servers clients traces =
    is_left_cut master servers clients ≡ true → traces.master.is_cut ≡ master.trace.is_cut

-- the channels that they send on, those that they receive from, and their traces
abbrev pub outs_of : List Ending → List (Vec (Tx TreeStamped) Global)
outs_of endings = map (λ (e : Ending). e.outs) endings

abbrev pub ins_of : List Ending → List (Vec (Rx TreeStamped) Global)
ins_of endings = map (λ (e : Ending). e.ins) endings

abbrev pub traces_of : List Ending → List Trace
traces_of endings = map (λ (e : Ending). e.trace) endings

-- a client's trace and record
abbrev pub client_trace_of : Ending → ClientTrace
client_trace_of e = record { trace = e.trace; «record» = e.seen }
