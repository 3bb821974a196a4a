-- The promise of the heads: what all heads of a chain acknowledge is one plain tree, in real time.
use Rattle.std.specs.Prelude.{ℕ, List, ◌++◌}
use Rattle.ztree.specs.Tree.{Tree}
use Rattle.zcalls.specs.declared.call.Update.{Update}
use Rattle.zcalls.specs.Cached.{Plain, CachedState}
use Rattle.zcalls.specs.PlainTree.{plain_tree}
use Rattle.zprotocol.specs.server.Machine.{machine_of, plain_from}
use Rattle.zlinearizability.specs.Cuts.{Stays}
use Rattle.zlinearizability.specs.legal.Prefix.{IsPrefix}
use Rattle.zheads.specs.Heads.{Heads, HeadEvent, run_heads, opening_heads}
use Rattle.zheads.specs.OneLog.{IsOneLog}

-- the heads after events, from the initial world of this many servers; their machine is that of a
-- sequential service with cached replies
abbrev pub heads_after : {P : Type 0} → Plain P → ℕ → List (Stays × HeadEvent) → Heads (CachedState P)
heads_after plain servers steps = run_heads (machine_of plain) (opening_heads (machine_of plain) servers) steps

-- Each list of events has a log that explains what callers saw of all heads, whatever channels lose
-- before each event. Later events only make the log longer: what was acknowledged remains in it.
abbrev pub AcknowledgedIsOne : {P : Type 0} → Plain P → ℕ → Type 0
AcknowledgedIsOne plain servers =
    (log : List (Stays × HeadEvent) → List Update)
    × ((steps : List (Stays × HeadEvent)) → IsOneLog plain (heads_after plain servers steps).seen (log steps))
    × ((steps more : List (Stays × HeadEvent)) → IsPrefix (log steps) (log (steps ++ more)))

-- so it is over the plain tree, for every number of servers
abbrev pub AcknowledgedIsOneTree : Type 0
AcknowledgedIsOneTree = (servers : ℕ) → AcknowledgedIsOne plain_tree servers

-- and over the plain tree that begins with any tree
abbrev pub AcknowledgedFromIsOneTree : Type 0
AcknowledgedFromIsOneTree = (t : Tree) (servers : ℕ) → AcknowledgedIsOne (plain_from t) servers
