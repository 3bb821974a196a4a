-- How a call is recorded.
use Rattle.std.specs.Prelude.{ℕ, List, slice_index, ◌==◌}
use Rattle.zjournal.specs.file.Events.{Event}

-- as three numbers, of which the last is 1 for a call that was done, and bytes
abbrev pub event_of : List ℕ → List ℕ → Event
event_of numbers bytes = (slice_index numbers 0, slice_index numbers 1, slice_index numbers 2 == 1, bytes)
