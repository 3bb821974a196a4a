-- Bytes that are plain and well spaced, seen one by one, and two neighbours at a time.
use Rattle.std.specs.Prelude.{◌≡◌, ℕ, ◌+◌, ◌<◌, ◌≤◌, Bool, true, false, not, ◌&&◌, List, [], ◌∷◌, ◌==◌, slice_index}
use Rattle.std.specs.Bool.{MatchBool}
use Rattle.zscript_text.specs.LineWords.{is_plain}

-- bytes after a space or the line's beginning, or after another byte: all are plain, and no space
-- follows another or is at an end of the line
abbrev pub is_spaced : Bool → List ℕ → Bool
is_spaced after_space [] = not after_space
is_spaced after_space (byte ∷ line) = is_plain byte && not ((byte == 0x20) && after_space) && is_spaced (byte == 0x20) line

-- a byte may not follow another: it is not plain, or a space after a space
abbrev pub is_odd : ℕ → ℕ → Bool
is_odd before byte = not (is_plain byte && not ((byte == 0x20) && (before == 0x20)))

-- the byte after this position is odd there
abbrev pub is_odd_behind : List ℕ → ℕ → Bool
is_odd_behind line place = is_odd (slice_index line place) (slice_index line (place + 1))

-- whether a byte is odd after one of the positions from one up to another
abbrev pub IsOddAmong : List ℕ → ℕ → ℕ → Bool → Type 0
IsOddAmong line from to found =
    MatchBool found ((place : ℕ) × (from ≤ place) × (place < to) × (is_odd_behind line place ≡ true))
    ((place : ℕ) → from ≤ place → place < to → is_odd_behind line place ≡ false)
