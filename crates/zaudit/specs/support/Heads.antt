-- The next events of all traces, each as its timestamp and the index of its trace, in a heap whose
-- top is the least.
use Rattle.std.specs.Prelude.{◌≡◌, ℕ, zero, suc, ◌+◌, Bool, false, Option, None, Some, List, get_or}
use Rattle.std.specs.BinaryHeap.{heap_items}
use Rattle.std.specs.List.{sum_by, AllByRecursion}
use Rattle.std.specs.declared.cmp.Ordering.{Ordering}
use Rattle.std.specs.declared.cmp.Reverse.{Reverse}
use Rattle.std.specs.declared.collections.BinaryHeap.{BinaryHeap}
use Rattle.std.specs.Ordering.{nat_cmp, ordering_then, is_lt}
use Rattle.zprotocol.specs.declared.traces.trace.TraceEvent.{TraceEvent}
use Rattle.zprotocol.specs.declared.traces.trace.Traces.{Traces}
use Rattle.zprotocol.specs.traces.Traces.{trace_of}
use Rattle.zprotocol.specs.traces.support.Places.{place_count, process_at, head_at, IsLeast}

abbrev pub Head : Type 0
Head = Reverse (ℕ × ℕ)

-- by timestamp, and at one timestamp by index
abbrev pub pair_cmp : ℕ × ℕ → ℕ × ℕ → Ordering
pair_cmp x y = ordering_then (nat_cmp x.0 y.0) (nat_cmp x.1 y.1)

-- the other way round, since a heap's top is the greatest
abbrev pub head_cmp : Head → Head → Ordering
head_cmp x y = pair_cmp y.0 x.0

-- one comes before another
abbrev pub is_before : ℕ × ℕ → ℕ × ℕ → Bool
is_before x y = is_lt (pair_cmp x y)

-- the sum of f over these heads
abbrev pub count_of : (ℕ × ℕ → ℕ) → List Head → ℕ
count_of f heads = sum_by (λ (head : Head). f head.0) heads

-- f at an index, where there is a next event
abbrev pub count_at : (ℕ × ℕ → ℕ) → ℕ → Option ℕ → ℕ
count_at f place None = 0
count_at f place (Some stamp) = f (stamp, place)

-- the sum of f over the indices below n
abbrev pub count_below : Traces → List ℕ → (ℕ × ℕ → ℕ) → ℕ → ℕ
count_below t read f zero = 0
count_below t read f (suc n) = count_at f n (head_at t read n) + count_below t read f n

-- the heads are the next events of the traces below index n, each once: every count agrees
abbrev pub HoldsHeads : Traces → List ℕ → ℕ → List Head → Type 0
HoldsHeads t read n heads = (f : ℕ × ℕ → ℕ) → count_of f heads ≡ count_below t read f n

-- this one is removed, and no other comes before it
abbrev pub IsFirstTaken : ℕ × ℕ → List Head → List Head → Type 0
IsFirstTaken first old new =
    ((f : ℕ × ℕ → ℕ) → count_of f new + f first ≡ count_of f old)
    × AllByRecursion (λ (head : Head). is_before head.0 first ≡ false) old

-- the trace at an index
abbrev pub trace_at : Traces → ℕ → List TraceEvent
trace_at t place = trace_of t (process_at t place)

-- this event is the next one at that index
abbrev pub IsNextAt : Traces → List ℕ → ℕ → TraceEvent → Type 0
IsNextAt t read place event = event ≡ get_or (trace_at t place) (get_or read place 0) event

-- this event, at this index, is the next of all traces, and is removed from the heap
abbrev pub IsNext : Traces → List ℕ → ℕ → TraceEvent → List Head → List Head → Type 0
IsNext t read place event old new =
    IsLeast t read (place_count t) (Some (place, event.stamp))
    × IsNextAt t read place event
    × ((f : ℕ × ℕ → ℕ) → count_of f new + f (event.stamp, place) ≡ count_of f old)

-- the heap holds the next events of all traces
abbrev pub HoldsAll : {A : Type 0} → Traces → List ℕ → BinaryHeap Head A → Type 0
HoldsAll t read heads = HoldsHeads t read (place_count t) (heap_items heads)

-- the next event of this index is added, if there is one
abbrev pub PutsHead : {A : Type 0} → Traces → List ℕ → ℕ → BinaryHeap Head A → BinaryHeap Head A → Type 0
PutsHead t read place old new =
    (f : ℕ × ℕ → ℕ) → count_of f (heap_items new) ≡ count_at f place (head_at t read place) + count_of f (heap_items old)

-- the earliest is removed
abbrev pub TakesFirst : {A : Type 0} → ℕ × ℕ → BinaryHeap Head A → BinaryHeap Head A → Type 0
TakesFirst first old new = IsFirstTaken first (heap_items old) (heap_items new)

-- and so is the next event of all traces
abbrev pub TakesNext : {A : Type 0} → Traces → List ℕ → ℕ → TraceEvent → BinaryHeap Head A → BinaryHeap Head A → Type 0
TakesNext t read place event old new = IsNext t read place event (heap_items old) (heap_items new)
