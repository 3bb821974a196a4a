-- Session timeouts: milliseconds in requests, ticks in calls. The source is the ZooKeeper
-- Programmer's Guide, "ZooKeeper Sessions". Counting a part of a tick as one is this project's
-- profile.
use Rattle.std.specs.Prelude.{ℕ, ◌-◌, ◌*◌, ◌^◌, min, ℤ, pos, negsuc}
use Rattle.std.specs.Int.{div_ceil}

-- the ticks to ask for, from the milliseconds of a tick and those that the client asks for
abbrev pub ticks_asked : ℕ → ℤ → ℕ
ticks_asked tick (pos millis) = div_ceil millis tick
ticks_asked tick (negsuc n) = 0

-- the milliseconds returned to the client, from those of a tick and the ticks granted
abbrev pub millis_reported : ℕ → ℕ → ℤ
millis_reported tick ticks = pos (min (ticks * tick) (2 ^ 31 - 1))
