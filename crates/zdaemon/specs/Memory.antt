-- What a server in memory does between two of its states, in the words of its host.
use Rattle.std.specs.Prelude.{◌≡◌, None, Some}
use Rattle.zfront.specs.Inputs.{Does, ServerView, without_first}
use Rattle.zconnections.specs.buffers.Inputs.{InputView}
use Rattle.zconnections.specs.buffers.Outbox.{ChunkView, first_of}

-- its front end does this
abbrev pub TakesInMemory : ServerView → InputView → ServerView → Type 0
TakesInMemory old input new = Does input old.front new.front

-- nothing of it is to be committed
abbrev pub KeepsInMemory : ServerView → ServerView → Type 0
KeepsInMemory old new = new ≡ old

-- its next chunk is sent, and it has none
abbrev pub ReportsInMemory : ServerView → ChunkView → ServerView → Type 0
ReportsInMemory old chunk new = (first_of old.front.tables.unsent ≡ Some chunk) × (new.front ≡ without_first old.front)

abbrev pub HasReportedInMemory : ServerView → Type 0
HasReportedInMemory old = first_of old.front.tables.unsent ≡ None
