-- Bytes that were read at opening, and wait to be returned.
use Rattle.std.specs.Prelude.{ℕ, List, [], ◌∷◌, Option, None, Some, Vec}
use Rattle.zjournal.specs.file.Events.{Event, held}

-- the calls so far: if bytes wait, that the file was opened and held them, and no other
abbrev pub calls_before : {A : Type 0} → Option (Vec ℕ A) → List Event → List Event
calls_before None events = events
calls_before (Some bytes) events = held bytes.items ∷ []
