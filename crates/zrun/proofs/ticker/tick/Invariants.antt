use Rattle.std.proofs.Common.{◌≡◌, ◌+◌}
use Rattle.zrun.specs.Clients.{SameClient}
use Rattle.zrun.specs.Ticks.{call_count}
use Rattle.zrun.proofs.ticker.tick.Given as goal

abbrev pub invariant-loop : goal.invariant-loop
invariant-loop g l = SameClient l.fn.client l.client × (call_count l.client ≡ call_count l.fn.client + 1)
