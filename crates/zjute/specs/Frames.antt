-- The received bytes of a connection, cut into frames: a length in four bytes (`int`), and that
-- many bytes.
use Rattle.std.specs.Prelude.{◌≡◌, ℕ, ◌≤◌, List, ◌++◌, length, take, drop, nat_lt, if◌then◌else◌}
use Rattle.std.specs.List.{flat_map, AllByRecursion}
use Rattle.std.specs.Int.{w32, to_be_bytes, from_be_bytes}
use Rattle.zjute.specs.declared.limits.TheConstants.{MAX_FRAME}
use Rattle.zjute.specs.declared.frames.Next.{Next}
use Rattle.zjute.specs.declared.frames.Next.TheVariants as code

-- the frame at the front of the received bytes
pub data Front : Type 0 where
  Whole : List ℕ → List ℕ → Front
  Partial : Front
  TooLong : Front

-- the frame after a valid length
abbrev pub cut_at : ℕ → List ℕ → Front
cut_at n rest = if nat_lt (length rest) n then Partial else Whole (take n rest) (drop n rest)

-- the frame after a length; a length below 0 has its highest bit set, so it is above the limit
abbrev pub behind_length : ℕ → List ℕ → Front
behind_length n rest = if nat_lt MAX_FRAME n then TooLong else cut_at n rest

unfoldable pub next_of : List ℕ → Front
next_of came =
    if nat_lt (length came) 4 then Partial else
    behind_length (from_be_bytes w32 (take 4 came)) (drop 4 came)

-- the result of `next_frame`, as bytes
abbrev pub NextIs : Next → Front → Type 0
NextIs (code.Whole frame rest) front = front ≡ Whole frame.now rest.now
NextIs code.Partial front = front ≡ Partial
NextIs code.TooLong front = front ≡ TooLong

-- a frame of these bytes
abbrev pub frame : List ℕ → List ℕ
frame bytes = to_be_bytes w32 (length bytes) ++ bytes

-- the bytes may be a frame's
abbrev pub IsFrame : List ℕ → Type 0
IsFrame bytes = length bytes ≤ MAX_FRAME

-- there is no whole frame at the front
abbrev pub IsEnd : List ℕ → Type 0
IsEnd rest = (bytes more : List ℕ) → next_of rest ≡ Whole bytes more → ⊥

-- the received bytes are these frames, and a rest without a whole frame at its front
pub record Splits (came : List ℕ) (frames : List (List ℕ)) (rest : List ℕ) : Type 0 where
  pub whole : came ≡ flat_map frame frames ++ rest
  pub each : AllByRecursion IsFrame frames
  pub ends : IsEnd rest

-- received bytes are cut in one way
abbrev pub OneSplit : Type 0
OneSplit =
    (came : List ℕ) (frames others : List (List ℕ)) (rest left : List ℕ) →
    Splits came frames rest → Splits came others left → (frames ≡ others) × (rest ≡ left)

-- a written frame is cut off the front, whatever follows it
abbrev pub FramesAreCut : Type 0
FramesAreCut =
    (bytes rest : List ℕ) → IsFrame bytes → next_of (frame bytes ++ rest) ≡ Whole bytes rest
