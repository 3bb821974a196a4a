-- What the guard passes of the inputs of a server for ZooKeeper's clients, and what it adds to the
-- chunks of that server. The guard is this project's own.
use Rattle.std.specs.Prelude.{Bool, ◌&&◌, if◌then◌else◌}
use Rattle.zconnections.specs.buffers.Inputs.{InputView}
use Rattle.zconnections.specs.buffers.Inputs.InputView.{Opened, Came, Ended, Tick}
use Rattle.zconnections.specs.buffers.Outbox.{ChunkView}
use Rattle.zguard.specs.Guarding.{GuardView, answer_at, answered, came, refuses}
use Rattle.zguard.specs.Guarding as guard

-- the input that the server gets in the place of this one
abbrev pub passed : GuardView → InputView → InputView
passed g (Opened c) = Opened c
passed g (Came c bytes) = Came c (came c bytes g).passed
passed g (Ended c) = Ended c
passed g Tick = Tick

-- the guard after it
abbrev pub after : GuardView → InputView → GuardView
after g (Opened c) = guard.opened c g
after g (Came c bytes) = (came c bytes g).guard
after g (Ended c) = guard.ended c g
after g Tick = g

-- the chunk is the close of a connection that was refused
abbrev pub ends_refused : GuardView → ChunkView → Bool
ends_refused g chunk = chunk.is_last && refuses g chunk.connection

-- such a close has the answer of the guard before it
abbrev pub with_answer : GuardView → ChunkView → ChunkView
with_answer g chunk = if ends_refused g chunk then record chunk { bytes = answer_at g chunk.connection } else chunk

-- the guard after this chunk of the server
abbrev pub after_chunk : GuardView → ChunkView → GuardView
after_chunk g chunk = if ends_refused g chunk then answered chunk.connection g else g
