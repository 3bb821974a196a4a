-- The checksum of a block: Adler-32 (RFC 1950, sections 2.2 and 9), in eight hexadecimal digits, the
-- highest first. The sum runs on: it is that of all texts so far. So a block that is missing shows at
-- the next one. A file's head has the sum from which its first one continues: 1, or another after a
-- compaction, so that the parts that follow still continue. A checksum detects a failing disk. No law
-- relies on two texts having different checksums.
use Rattle.std.specs.Prelude.{ℕ, ◌<◌, ◌+◌, ◌*◌, ◌/◌, ◌%◌, nat_lt, if◌then◌else◌, List, [], ◌∷◌, ◌++◌}

-- both sums of a checksum are below 65521
abbrev pub IsSum : ℕ → Type 0
IsSum sum = (sum % 65536 < 65521) × (sum / 65536 < 65521)

-- two sums, of the bytes and of these sums, each modulo 65521
abbrev pub adler_from : ℕ → ℕ → List ℕ → ℕ
adler_from a b [] = b * 65536 + a
adler_from a b (byte ∷ text) = adler_from ((a + byte) % 65521) ((b + (a + byte) % 65521) % 65521) text

-- the sum continues from this one over a text. The sum of nothing is 1
abbrev pub adler_after : ℕ → List ℕ → ℕ
adler_after sum text = adler_from (sum % 65536) (sum / 65536) text

-- the digit of a number below 16
abbrev pub digit : ℕ → ℕ
digit n = if nat_lt n 10 then 48 + n else 87 + n

abbrev pub digits : ℕ → List ℕ
digits n =
    digit (n / 268435456 % 16)
    ∷ digit (n / 16777216 % 16)
    ∷ digit (n / 1048576 % 16)
    ∷ digit (n / 65536 % 16)
    ∷ digit (n / 4096 % 16)
    ∷ digit (n / 256 % 16)
    ∷ digit (n / 16 % 16)
    ∷ digit (n % 16)
    ∷ []

-- a text after its checksum, which continues from this sum
abbrev pub stamped : ℕ → List ℕ → List ℕ
stamped sum text = digits (adler_after sum text) ++ text

-- the sum after these texts, which continues from this one
abbrev pub sum_after_all : ℕ → List (List ℕ) → ℕ
sum_after_all sum [] = sum
sum_after_all sum (text ∷ texts) = sum_after_all (adler_after sum text) texts

-- texts after their checksums, of which the first continues from this sum
abbrev pub stamped_all : ℕ → List (List ℕ) → List (List ℕ)
stamped_all sum [] = []
stamped_all sum (text ∷ texts) = stamped sum text ∷ stamped_all (adler_after sum text) texts
