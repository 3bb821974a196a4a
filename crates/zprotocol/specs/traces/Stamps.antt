-- Lamport timestamps, up to a last one.
use Rattle.std.specs.Prelude.{ℕ, ◌+◌, nat_lt, if◌then◌else◌}
use Rattle.zprotocol.specs.declared.traces.stamp.TheConstants.{MAX_STAMP}

-- the next timestamp; the last one stays
abbrev pub next_stamp : ℕ → ℕ
next_stamp n = if nat_lt n MAX_STAMP then n + 1 else MAX_STAMP
