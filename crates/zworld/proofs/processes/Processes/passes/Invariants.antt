use Rattle.std.proofs.Common.{◌-◌}
use Rattle.zprotocol.specs.server.Machine.{cached_tree}
use Rattle.zprotocol.specs.world.Settle.{deliveries, passes}
use Rattle.zworld.specs.support.Settling.{GoesOn, StillOrCould}
use Rattle.zworld.proofs.processes.Processes.passes.Given as goal

-- what all passes make of a settling, those that are left make of it from here
abbrev pub invariant-loop-pass : goal.invariant-loop-pass
invariant-loop-pass l =
    GoesOn l.strict (passes cached_tree (deliveries l.clients) l.limit) (passes cached_tree (deliveries l.clients) (l.limit - l.pass))
    (record { held = l.fn.self; left = l.fn.left; seen = l.fn.seen.items })
    (record { held = l.self; left = l.left; seen = l.seen.items })
    × StillOrCould l.fn.self l.self l.fn.left l.left
