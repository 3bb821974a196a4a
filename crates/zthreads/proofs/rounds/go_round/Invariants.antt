use Rattle.std.proofs.Common.{◌≡◌}
use Rattle.zchannels.specs.HaltSeats.{IsSeatOf}
use Rattle.zthreads.specs.Endpoints.{link_count}
use Rattle.zthreads.specs.Rounds.{WentOn}
use Rattle.zthreads.proofs.rounds.go_round.Given as goal

abbrev pub invariant-loop-link : goal.invariant-loop-link
invariant-loop-link g l = WentOn l.initial.host.endpoint l.host.endpoint × IsSeatOf l.halt l.seat × (link_count l.host.endpoint ≡ l.links)
