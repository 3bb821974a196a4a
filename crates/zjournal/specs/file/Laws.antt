-- What holds of all records of calls.
use Rattle.std.specs.Prelude.{List}
use Rattle.zjournal.specs.file.Events.{Event, replay, MayLeave}

-- What a read returns is among what a crash may leave: killing the process leaves it.
abbrev pub WhatIsReadMayBeLeft : Type 0
WhatIsReadMayBeLeft = (events : List Event) → MayLeave events (replay events).seen
