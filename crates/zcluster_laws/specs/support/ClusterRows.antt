-- Worked clusters of a chain of two servers, which begins with any tree.
use Rattle.std.specs.Prelude.{ℕ, List, [], ◌∷◌, ◌++◌, map, Option, None}
use Rattle.std.specs.Option.{option_map}
use Rattle.ztree.specs.Tree.{Tree, opening_tree}
use Rattle.zcalls.specs.declared.call.Update.{Update}
use Rattle.zcalls.specs.Cached.{CachedState}
use Rattle.zprotocol.specs.declared.process.Process.{Process}
use Rattle.zprotocol.specs.declared.process.Process.TheVariants.{Master, Server}
use Rattle.zprotocol.specs.declared.world.event.Event.TheVariants.{Take, Fail}
use Rattle.zprotocol.specs.server.Machine.{cached_tree_from}
use Rattle.zheads.specs.Heads.{Heads, HeadEvent, Append, InChain, run_heads, opening_heads}
use Rattle.zconnections.specs.buffers.Inputs.InputView.{Opened, Tick}
use Rattle.ztree_service.specs.log.Logs.{Log}
use Rattle.zcluster_laws.specs.Cluster.{Reaction, Fronted, Cluster, Step, Begins, Takes, Sends, Pads, Chain, with_front}

-- the heads after events before which this many messages stay on each channel
abbrev pub heads_after : Tree → List (ℕ × HeadEvent) → Heads (CachedState Tree)
heads_after t events =
    run_heads (cached_tree_from t) (opening_heads (cached_tree_from t) 2) (map (λ event. ((λ from to. event.0), event.1)) events)

-- a delivery, and a failure
abbrev pub takes : Process → Process → HeadEvent
takes from to = InChain (Take from to)

abbrev pub fails : ℕ → HeadEvent
fails s = InChain (Fail s)

-- an update at the first head
abbrev pub appended : Update → List (ℕ × HeadEvent)
appended u = (9, Append 1 u) ∷ []

-- then the second server fails, and the first becomes the tail
abbrev pub alone : Update → List (ℕ × HeadEvent)
alone u = appended u ++ (9, fails 2) ∷ (9, takes (Server 2) Master) ∷ (9, takes Master (Server 1)) ∷ []

-- an update at the first head, which fails; the second server becomes the head. It has the entry,
-- or the entry is lost
abbrev pub successor_has_it : Update → List (ℕ × HeadEvent)
successor_has_it u =
    appended u ++ (9, takes (Server 1) (Server 2)) ∷ (9, fails 1) ∷ (9, takes (Server 1) Master) ∷ (9, takes Master (Server 2)) ∷ []

abbrev pub successor_lacks_it : Update → List (ℕ × HeadEvent)
successor_lacks_it u = appended u ++ (0, fails 1) ∷ (9, takes (Server 1) Master) ∷ (9, takes Master (Server 2)) ∷ []

-- a cluster with these heads, without fronts, and with one at the first server
abbrev pub cluster : Heads (CachedState Tree) → Cluster
cluster h = record { heads = h; fronts = λ s. None; visible = [] }

abbrev pub cluster_with : Heads (CachedState Tree) → Fronted → Cluster
cluster_with h p = with_front 1 p (cluster h)

-- the tree of a server's front
abbrev pub tree_at : ℕ → Cluster → Option Tree
tree_at s c = option_map (λ p. p.front.tree) (c.fronts s)

-- a reaction with these calls, between these entries
abbrev pub reaction : Log → ℕ → ℕ → Reaction
reaction calls from place = record { first = opening_tree; input = Tick; calls = calls; chunks = []; tree = opening_tree; from = from; place = place }

-- the reaction to a connection that was opened, before the first entry
abbrev pub quiet : Tree → ℕ → Reaction
quiet t c = record (reaction [] 0 0) { first = t; input = Opened c; tree = t }

-- a front handles an input at the first head, which fails; then one at the second, which appends an
-- entry, and whose front's reaction is sent
abbrev pub two_heads : Update → List Step
two_heads u =
    Begins 1 ∷ Takes 1 (Opened 7) ∷ Chain (Fail 1) ∷ Chain (Take (Server 1) Master) ∷ Chain (Take Master (Server 2)) ∷ Begins 2
    ∷ Takes 2 (Opened 8) ∷ Pads 2 u ∷ Sends 2 ∷ []
