use Rattle.std.proofs.Common.{◌≡◌, false, length, true}
use Rattle.zchannels.specs.Rings.{IsFlushed}
use Rattle.zthreads.specs.Endpoints.{Keeps, SameRest}
use Rattle.zthreads.specs.Waiting.{EachBelow, IsEmpty}
use Rattle.zthreads.proofs.endpoint.Endpoint.flush_all.Given as goal

abbrev pub invariant-loop-link : goal.invariant-loop-link
invariant-loop-link l =
    Keeps l.initial.self l.self × SameRest l.initial.self l.self × (length l.self.outs.items ≡ l.link-end)
    × (l.self.waits ≡ true)
    × (l.waits ≡ false → EachBelow IsEmpty l.link l.self.outs.items)
    × EachBelow IsFlushed l.link l.self.outs.items
