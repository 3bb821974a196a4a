-- The base of the zxids that a server in memory tells, and its law: this project's profile.
use Rattle.std.specs.Prelude.{◌≡◌, ℕ, ◌-◌, ◌*◌, ◌^◌, ◌<◌, min, true, int_lt}
use Rattle.zresponses.specs.Stats.{told}

-- the base of a start at this time, in milliseconds since 1970: 2 ^ 20 for each of them, and less
-- than 2 ^ 62. The year 2109 is the last that counts
abbrev pub base_at : ℕ → ℕ
base_at now = min now (2 ^ 42 - 1) * 2 ^ 20

-- a server that starts later tells greater zxids than an earlier one, whose last zxid is less than
-- 2 ^ 20 for each millisecond between them
abbrev pub LaterStartsTellMore : Type 0
LaterStartsTellMore =
    (before later last zxid : ℕ) → before < later → later < 2 ^ 42 → last < (later - before) * 2 ^ 20 → zxid < 2 ^ 62
    → int_lt (told (base_at before) last) (told (base_at later) zxid) ≡ true
