-- The promise of a chain that begins with another tree than the initial one: every history is
-- linearizable from that tree on.
use Rattle.std.specs.Prelude.{ℕ, List}
use Rattle.ztree.specs.Tree.{Tree}
use Rattle.zprotocol.specs.server.Machine.{cached_tree_from}
use Rattle.zprotocol.specs.declared.world.event.Event.{Event}
use Rattle.zprotocol.specs.world.FromTree.{CanStart, IsExplainedFrom, opening_world_from, world_after_from}
use Rattle.zlinearizability.specs.Cuts.{Stays, run_with_cuts}

-- for every tree that a chain can begin with, and every list of events, the history of the run is
-- linearizable over the plain tree that begins with it
abbrev pub EveryHistoryFromIsExplained : Type 0
EveryHistoryFromIsExplained =
    (t : Tree) → CanStart t → (servers clients : ℕ) (events : List Event)
    → IsExplainedFrom t (world_after_from t servers clients events).history

-- the same holds where channels lose their ends
abbrev pub EveryHistoryFromWithCutsIsExplained : Type 0
EveryHistoryFromWithCutsIsExplained =
    (t : Tree) → CanStart t → (servers clients : ℕ) (steps : List (Stays × Event))
    → IsExplainedFrom t (run_with_cuts (cached_tree_from t) (opening_world_from t servers clients) steps).history
