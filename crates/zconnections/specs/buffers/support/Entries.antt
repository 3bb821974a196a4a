-- The entries of a table, in the order of connections, and the count of their bytes.
use Rattle.std.specs.Prelude.{◌≡◌, ℕ, ◌^◌, ◌%◌, List, length}
use Rattle.std.specs.List.{sum_by}
use Rattle.std.specs.List.Sorted.{IsStrictlySortedBy}
use Rattle.std.specs.Map.{keys_of, values_of}
use Rattle.std.specs.Ordering.{nat_cmp}
use Rattle.zconnections.specs.buffers.Streams.{StreamView}

-- the number of bytes of a stream
abbrev pub size_of : StreamView → ℕ
size_of s = length s.bytes

-- the number of bytes of all entries
abbrev pub size_of_all : List (ℕ × StreamView) → ℕ
size_of_all es = sum_by size_of (values_of es)

-- the entries are in order, and the number is the count of their bytes, wrapped at 2^64
pub record IsCounted (es : List (ℕ × StreamView)) (held : ℕ) : Type 0 where
  pub order : IsStrictlySortedBy nat_cmp (keys_of es)
  pub count : held ≡ size_of_all es % 2 ^ 64
