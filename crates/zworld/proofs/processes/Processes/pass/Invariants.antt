use Rattle.std.proofs.Common.{◌<◌, ◌≤◌, ◌+◌, ◌-◌, ◌*◌}
use Rattle.zprotocol.specs.declared.limits.TheConstants.{PROCESSES}
use Rattle.zworld.specs.support.Settling.{StillOrCould}
use Rattle.zworld.proofs.Turns.{CameTo}
use Rattle.zworld.proofs.processes.Processes.pass.Given as goal

-- turns advance by senders, and for one sender by receivers
abbrev pub decreases-loop-turn : goal.decreases-loop-turn
decreases-loop-turn l = (PROCESSES - l.turn.sender) * PROCESSES + (PROCESSES - l.turn.receiver)

-- so far the channels before this turn had theirs
abbrev pub invariant-loop-turn : goal.invariant-loop-turn
invariant-loop-turn l =
    (l.turn.sender ≤ PROCESSES) × (l.turn.receiver < PROCESSES)
    × CameTo l.strict l.clients l.turn (record { held = l.fn.self; left = l.fn.left; seen = l.fn.seen.items })
    (record { held = l.self; left = l.left; seen = l.seen.items })
    × StillOrCould l.fn.self l.self l.fn.left l.left
