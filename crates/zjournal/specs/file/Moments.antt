-- The moments of a file: after each of its calls, by their number.
use Rattle.std.specs.Prelude.{◌⊎◌, ℕ, ◌≤◌, List, [], ◌∷◌, length}
use Rattle.std.proofs.Common.{inl, inr, arith}
use Rattle.zjournal.specs.file.Events.{Event, MayLeave}

-- what a crash after one of these calls might have left, from the moment t on
abbrev pub LeftSince : List Event → ℕ → List ℕ → Type 0
LeftSince [] t c = MayLeave [] c
LeftSince (e ∷ earlier) t c = MayLeave (e ∷ earlier) c ⊎ ((t ≤ length earlier) × LeftSince earlier t c)

-- the last moment is one of them
pub left_now : (events : List Event) (t : ℕ) (c : List ℕ) → MayLeave events c → LeftSince events t c
left_now [] t c may = may
left_now (e ∷ earlier) t c may = inl may

-- there is no moment after the last one
pub left_last : (events : List Event) (c : List ℕ) → LeftSince events (length events) c → MayLeave events c
left_last [] c left = left
left_last (e ∷ earlier) c (inl now) = now
left_last (e ∷ earlier) c (inr before) = absurd (late before.0)
  where
    late : length (e ∷ earlier) ≤ length earlier → ⊥
    late le = omega arith
