-- The contents of a file in memory.
use Rattle.std.specs.Prelude.{List}
use Rattle.zjournal.specs.declared.memory.MemoryFile.{MemoryFile}
use Rattle.zjournal.specs.declared.moment.Moment.{Moment}

-- the file now, and before each call that changed it
abbrev pub current_of : MemoryFile → Moment
current_of m = m.current

abbrev pub past_of : MemoryFile → List Moment
past_of m = m.past.items
