-- The rule of the ticket word, over plain data: the tickets of all passes are the numbers below the
-- word, each once.
use Rattle.std.specs.Prelude.{◌≡◌, ℕ, ◌+◌, ◌*◌, ◌<◌, ◌≤◌, ◌==◌, ◌^◌, List, [], ◌∷◌, length, slice_index, Bool, true, false}
use mathlib.Core.Option.{some}
use lib.ListN.{get_elem?}
use Rattle.atomic_table.specs.Table.{State}
use Rattle.zchannels.specs.declared.hand.Hand.{Hand}

-- a pass with these parts and these tickets
abbrev pub hand : ℕ → List ℕ → Hand
hand parts drawn = record { parts = parts; drawn = drawn }

-- 1 for true, 0 for false
abbrev pub one_if : Bool → ℕ
one_if true = 1
one_if false = 0

-- 1 for equal numbers, 0 for others
abbrev pub same : ℕ → ℕ → ℕ
same y x = one_if (y == x)

-- how often x occurs in the list
abbrev pub times : ℕ → List ℕ → ℕ
times x [] = 0
times x (y ∷ ys) = same y x + times x ys

-- each number below n is counted once, and no other number is counted
abbrev pub EachOnce : ℕ → (ℕ → ℕ) → Type 0
EachOnce n count = (x : ℕ) → (x < n → count x ≡ 1) × (n ≤ x → count x ≡ 0)

-- the sum of a measure over all passes
abbrev pub total : (Hand → ℕ) → List Hand → ℕ
total f [] = 0
total f (v ∷ vs) = f v + total f vs

-- a pass has at most 2^32 tickets for each of its parts, so one without parts has none
abbrev pub Fits : List Hand → Type 0
Fits views = (seat : ℕ) (v : Hand) → get_elem? views seat ≡ some v → length v.drawn ≤ 2 ^ 32 * v.parts

-- the n parts are all held, the word counts the tickets, and the tickets are the numbers below it
abbrev pub Given : ℕ → State (Unit {0}) Hand → Type 0
Given n s =
    (length s.words ≡ 1)
    × (total (λ v. v.parts) s.views ≡ n)
    × (total (λ v. length v.drawn) s.views ≡ slice_index s.words 0)
    × EachOnce (slice_index s.words 0) (λ x. total (λ v. times x v.drawn) s.views)
    × Fits s.views
