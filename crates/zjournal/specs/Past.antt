-- What a power cut can leave of a file in memory, now and earlier.
use Rattle.std.specs.Prelude.{◌≡◌, ◌⊎◌, ℕ, List, [], ◌∷◌, length, drop}
use mathlib.Core.Logic.{inl, inr}
use Rattle.zjournal.specs.declared.moment.Moment.{Moment}

-- at this moment a power cut can leave these bytes: all that was written arrived, or it tore
abbrev pub CanBe : Moment → List ℕ → Type 0
CanBe m bytes = (bytes ≡ m.disk.items) ⊎ (bytes ≡ m.seen.items)

-- at one of these moments it could
abbrev pub HadBeen : List Moment → List ℕ → Type 0
HadBeen [] bytes = ⊥
HadBeen (m ∷ past) bytes = CanBe m bytes ⊎ HadBeen past bytes

-- what a crash since a moment might have left
abbrev pub Since : List Moment → Moment → ℕ → List ℕ → Type 0
Since past m t c = CanBe m c ⊎ HadBeen (drop t past) c

-- the two hold the same
abbrev pub IsCopy : Moment → Moment → Type 0
IsCopy m n = (m.disk.items ≡ n.disk.items) × (m.seen.items ≡ n.seen.items)

none_left : (past : List Moment) (c : List ℕ) → HadBeen (drop (length past) past) c → ⊥
none_left [] c had = had
none_left (m ∷ past) c had = none_left past c had

-- there is no moment after the last of them
pub only_bytes : (past : List Moment) (m : Moment) (c : List ℕ) → CanBe m c ⊎ HadBeen (drop (length past) past) c → CanBe m c
only_bytes past m c (inl now) = now
only_bytes past m c (inr had) = absurd (none_left past c had)
