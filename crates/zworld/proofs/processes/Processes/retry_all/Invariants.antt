use Rattle.std.proofs.Common.{true}
use Rattle.zprotocol.specs.world.History.{History}
use Rattle.zprotocol.specs.world.Settle.{retry_events}
use Rattle.zworld.specs.support.Settling.{StillOrCould, Tries}
use Rattle.zworld.proofs.processes.Processes.retry_all.Given as goal

abbrev pub invariant-loop-number : goal.invariant-loop-number
invariant-loop-number l =
    ((seen : History) → Tries true (retry_events l.number)
    (record { held = l.fn.self; left = l.fn.left; seen = seen })
    (record { held = l.self; left = l.left; seen = seen }))
    × StillOrCould l.fn.self l.self l.fn.left l.left
