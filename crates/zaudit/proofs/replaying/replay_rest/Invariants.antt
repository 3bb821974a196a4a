use Rattle.std.proofs.Common.{◌≡◌, length}
use Rattle.std.specs.BinaryHeap.{heap_items, IsHeap}
use Rattle.zworld.specs.Steps.{world_in}
use Rattle.zaudit.specs.support.Heads.{head_cmp, HoldsHeads}
use Rattle.zprotocol.specs.traces.support.Places.{place_count, unread, HasReplayed}
use Rattle.zaudit.proofs.replaying.replay_rest.Given as goal

abbrev pub invariant-loop : goal.invariant-loop
invariant-loop l =
    (length l.read ≡ place_count l.traces) × IsHeap head_cmp (heap_items l.heads)
    × HoldsHeads l.traces l.read (place_count l.traces) (heap_items l.heads)
    × HasReplayed l.traces l.read (world_in l.world)
    × (l.world.has_forgotten ≡ l.fn.world.has_forgotten)

abbrev pub decreases-loop : goal.decreases-loop
decreases-loop l = unread l.traces l.read (place_count l.traces)
