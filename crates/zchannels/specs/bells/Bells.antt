-- What a clause says of bells. No clause says which thread sleeps, or that it is woken.
use Rattle.std.specs.Prelude.{ℕ, length}
use Rattle.std.specs.Arc.{arc_value}
use Rattle.std.specs.Duration.{as_nanos}
use Rattle.zchannels.specs.declared.bells.bells.Bells.{Bells}

-- how many there are
abbrev pub bell_count : Bells → ℕ
bell_count b = length (arc_value b.words).items

-- the longest sleep of a thread, in nanoseconds
abbrev pub longest_of : Bells → ℕ
longest_of b = as_nanos b.longest
