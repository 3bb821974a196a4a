use Rattle.zchannels.specs.HaltSeats.{IsSeatOf}
use Rattle.zthreads.specs.Endpoints.{SameEndpoint}
use Rattle.zthreads.proofs.serving.serve.Given as goal

abbrev pub invariant-loop : goal.invariant-loop
invariant-loop g l = SameEndpoint l.fn.member.host.endpoint l.member.host.endpoint × IsSeatOf l.halt l.seat
