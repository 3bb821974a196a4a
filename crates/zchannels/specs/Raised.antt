-- The rule of the halt word: the bits that seats know are the bits that are set.
use Rattle.std.specs.Prelude.{◌≡◌, ℕ, ◌+◌, ◌≤◌, ◌==◌, if◌then◌else◌, List, [], ◌∷◌, length, slice_index}
use Rattle.std.specs.Int.{bit_at}
use mathlib.Core.Option.{some}
use lib.ListN.{get_elem?}
use Rattle.atomic_table.specs.Table.{State}
use Rattle.zchannels.specs.declared.halt_rule.Known.{Known}

-- a seat with these parts, which knows these bits
abbrev pub known : ℕ → ℕ → Known
known parts bits = record { parts = parts; bits = bits }

-- every bit that is set in a is set in b
abbrev pub Within : ℕ → ℕ → Type 0
Within a b = (i : ℕ) → bit_at a i ≤ bit_at b i

-- some seat knows bit i
abbrev pub IsKnown : List Known → ℕ → Type 0
IsKnown views i = (seat : ℕ) × (v : Known) × (get_elem? views seat ≡ some v) × (bit_at v.bits i ≡ 1)

-- the parts of all seats
abbrev pub parts_in : List Known → ℕ
parts_in [] = 0
parts_in (v ∷ vs) = v.parts + parts_in vs

-- the parts of the seats that know no bit
abbrev pub parts_unknowing : List Known → ℕ
parts_unknowing [] = 0
parts_unknowing (v ∷ vs) = (if v.bits == 0 then v.parts else 0) + parts_unknowing vs

-- There is one word, and the seats hold n parts. Each bit that a seat knows is set in the word, and
-- each bit that is set is known to a seat. A seat without parts knows no bit.
abbrev pub Raised : ℕ → State (Unit {0}) Known → Type 0
Raised n s =
    (length s.words ≡ 1)
    × (parts_in s.views ≡ n)
    × ((seat : ℕ) (v : Known) → get_elem? s.views seat ≡ some v → Within v.bits (slice_index s.words 0))
    × ((i : ℕ) → bit_at (slice_index s.words 0) i ≡ 1 → IsKnown s.views i)
    × ((seat : ℕ) (v : Known) → get_elem? s.views seat ≡ some v → v.parts ≡ 0 → v.bits ≡ 0)

-- where seats that know no bit hold all parts, no bit is set
abbrev pub NoneIsSet : Type 0
NoneIsSet =
    (n : ℕ) (s : State (Unit {0}) Known) → Raised n s → parts_unknowing s.views ≡ n
    → (i : ℕ) → bit_at (slice_index s.words 0) i ≡ 0
