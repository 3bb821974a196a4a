use Rattle.std.proofs.Common.{◌≡◌, map}
use Rattle.std.specs.List.{range_with_len}
use Rattle.zprotocol.specs.Places.{process_at}
use Rattle.zprotocol.specs.server.Machine.{cached_tree_from}
use Rattle.zworld.specs.support.Opening.{opening_actor}
use Rattle.zworld.proofs.opening.restored_actors.Given as goal

-- that many of them are there
abbrev pub invariant-loop-place : goal.invariant-loop-place
invariant-loop-place l =
    l.actors.items ≡ map (λ place. opening_actor (cached_tree_from l.fn.snapshot.machine.plain) l.fn.last l.fn.clients (process_at place))
    (range_with_len 0 l.place)
