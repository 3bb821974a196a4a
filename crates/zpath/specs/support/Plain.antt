-- Names that are seen to be names byte by byte, and their lengths.
use Rattle.std.specs.Prelude.{◌≡◌, ℕ, ◌+◌, ◌-◌, Bool, true, false, not, ◌&&◌, List, [], ◌∷◌, ◌==◌, nat_lt, if◌then◌else◌, length, take, drop}
use Rattle.std.specs.List.{sum_by}
use Rattle.zpath.specs.Grammar.{is_name_byte}

-- no name is empty, has a bad byte or begins with a dot, and after this one come at most that many;
-- a name begins here, or continues
abbrev pub has_plain_names : ℕ → Bool → List ℕ → Bool
has_plain_names room begins [] = not begins
has_plain_names room begins (byte ∷ rest) =
    if byte == 47 then not begins && nat_lt 0 room && has_plain_names (room - 1) true rest
    else is_name_byte byte && not (begins && (byte == 46)) && has_plain_names room false rest

-- how long the names are; the first has that many bytes before these
abbrev pub lens_of : ℕ → List ℕ → List ℕ
lens_of len [] = len ∷ []
lens_of len (byte ∷ rest) = if byte == 47 then len ∷ lens_of 0 rest else lens_of (len + 1) rest

-- the names of these lengths, with a byte between two
abbrev pub cut_by : List ℕ → List ℕ → List (List ℕ)
cut_by [] bytes = []
cut_by (len ∷ lens) bytes = take len bytes ∷ cut_by lens (drop (len + 1) bytes)

-- such names are the whole of the bytes
abbrev pub FitInto : List ℕ → List ℕ → Type 0
FitInto bytes lens = sum_by (λ len. len + 1) lens ≡ length bytes + 1
