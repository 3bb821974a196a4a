use Rattle.std.proofs.Common.{length}
use Rattle.zthreads.specs.Endpoints.{IsSettled, PutsOn, SameBooks, SameEndpoint, pending}
use Rattle.zthreads.proofs.endpoint.Endpoint.settle.Given as goal

abbrev pub invariant-loop-to : goal.invariant-loop-to
invariant-loop-to l =
    PutsOn l.initial.self l.self (pending l.initial.self) (pending l.self)
    × SameEndpoint l.initial.self l.self
    × SameBooks l.initial.self l.self
    × (IsSettled l.initial.self → IsSettled l.self)

abbrev pub decreases-loop-to : goal.decreases-loop-to
decreases-loop-to l = length (pending l.self)
