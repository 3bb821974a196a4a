-- The promise of the chain: every history is linearizable.
use Rattle.std.specs.Prelude.{ℕ, List}
use Rattle.zprotocol.specs.server.Machine.{cached_tree}
use Rattle.zprotocol.specs.declared.world.event.Event.{Event}
use Rattle.zprotocol.specs.world.World.{opening_world}
use Rattle.zprotocol.specs.world.Events.{run}
use Rattle.zprotocol.specs.world.PlainTree.{IsExplained}

-- for every list of events, the history of the run is linearizable over the plain tree
abbrev pub EveryHistoryIsExplained : Type 0
EveryHistoryIsExplained =
    (servers clients : ℕ) (events : List Event) → IsExplained (run cached_tree (opening_world cached_tree servers clients) events).history
