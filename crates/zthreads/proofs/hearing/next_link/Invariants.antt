use Rattle.zthreads.specs.Endpoints.{SameEndpoint}
use Rattle.zthreads.specs.Hosts.{DidIdle}
use Rattle.zthreads.proofs.hearing.next_link.Given as goal

abbrev pub invariant-loop : goal.invariant-loop
invariant-loop l = DidIdle l.initial.host l.host × SameEndpoint l.initial.host.endpoint l.host.endpoint
