-- Forms in which a first number decides what follows: flags, options, lengths and counts, and tags.
use Rattle.std.specs.Prelude.{ℕ, ◌≤◌, List, length, Option, Some, None, Bool, true, false, Result, Ok, Err, nat_lt, ◌==◌, if◌then◌else◌, unwrap_or, is_some}
use Rattle.std.specs.Option.{option_map}
use Rattle.std.specs.Int.{w8, w32}
use Rattle.zcodec.specs.declared.fault.Fault.{Fault}
use Rattle.zcodec.specs.declared.fault.Fault.TheVariants.{Long, Invalid}
use Rattle.zcodec.specs.declared.limits.TheConstants.{NULL}
use Rattle.zcodec.specs.Forms.{Form, number, either, exactly, only, made, tagged, kind, times}

-- a byte: 1 for true, 0 for false
abbrev pub flag_from : ℕ → Result Bool Fault
flag_from n = if n == 0 then Ok false else if n == 1 then Ok true else Err Invalid

abbrev pub flag : Form Bool
flag = made (number w8) (λ b. if b then 1 else 0) flag_from (λ _. Unit {0})

-- the value of an option that has one
abbrev pub some : {A : Type 0} → Form A → Form (Option A)
some c = kind c Some (λ o. o)

-- a flag, and the value if it is set
abbrev pub option : {A : Type 0} → Form A → Form (Option A)
option c = tagged flag is_some (λ has. either has (some c) (only None))

-- ---- lengths and counts

-- a length in four bytes, at most the limit
abbrev pub length_from : ℕ → ℕ → Result ℕ Fault
length_from most n = if nat_lt most n then Err Long else Ok n

abbrev pub at_most : ℕ → Form ℕ
at_most most = made (number w32) (λ n. n) (length_from most) (λ n. n ≤ most)

-- at most that many bytes, after their length
abbrev pub sized : ℕ → Form (List ℕ)
sized most = tagged (at_most most) length exactly

-- at most that many values, after their count
abbrev pub listed : {A : Type 0} → ℕ → Form A → Form (List A)
listed most c = tagged (at_most most) length (times c)

-- a length in four bytes, at most the limit, or -1 for null
abbrev pub null_from : ℕ → ℕ → Result (Option ℕ) Fault
null_from most n =
    if n == NULL then Ok None else if nat_lt most n then Err Long else Ok (Some n)

-- null, or a length of at most the limit
abbrev pub FitsNull : ℕ → Option ℕ → Type 0
FitsNull most None = Unit {0}
FitsNull most (Some n) = n ≤ most

abbrev pub null_or : ℕ → Form (Option ℕ)
null_or most = made (number w32) (λ o. unwrap_or o NULL) (null_from most) (FitsNull most)

-- null if the length is -1, else the form for that length
abbrev pub unless_null : {A : Type 0} → (ℕ → Form A) → Option ℕ → Form (Option A)
unless_null body None = only None
unless_null body (Some n) = some (body n)

-- at most that many bytes after their length, or null
abbrev pub buffer : ℕ → Form (Option (List ℕ))
buffer most = tagged (null_or most) (option_map length) (unless_null exactly)

-- at most that many values after their count, or null
abbrev pub listed_or_null : {A : Type 0} → ℕ → Form A → Form (Option (List A))
listed_or_null most c = tagged (null_or most) (option_map length) (unless_null (times c))

-- ---- sums of kinds: `tagged (number w) tag_of (at 1 one (at 2 two (λ _. invalid)))`

-- one form at this tag, and the others at the other tags
abbrev pub at : {A : Type 0} → ℕ → Form A → (ℕ → Form A) → ℕ → Form A
at k c others t = either (t == k) c (others t)
