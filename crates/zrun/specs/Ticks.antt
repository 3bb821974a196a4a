-- What a clause says of the calls that a client invoked, and of the ticks that a ticker counts.
use Rattle.std.specs.Prelude.{ℕ, ◌+◌, ◌≤◌}
use Rattle.zthreads.specs.Callers.{caller_view}
use Rattle.zrun.specs.declared.client.Client.{Client}
use Rattle.zrun.specs.declared.ticks.Ticks.{Ticks}
use Rattle.zrun.specs.Clients.{caller_of}

-- how many calls it invoked
abbrev pub call_count : Client → ℕ
call_count c = (caller_view (caller_of c)).number

-- each tick with a reply is a call that the client invoked
abbrev pub CountsTicks : Client → Client → Ticks → Type 0
CountsTicks a b ticks = call_count a + ticks.answered ≤ call_count b
