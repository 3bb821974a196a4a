-- A chain that begins with another tree than the initial one: that of a snapshot. Each server of
-- the chain holds the tree. No reply is cached, since all clients begin anew.
use Rattle.std.specs.Prelude.{◌≡◌, ℕ, List}
use Rattle.ztree.specs.Tree.{Tree}
use Rattle.ztree.specs.Lawful.{IsLawful, AllSessions}
use Rattle.zcalls.specs.Bounds.{IsGranted}
use Rattle.zcalls.specs.Cached.{CachedState}
use Rattle.zcalls.specs.Operation.{Operation}
use Rattle.zprotocol.specs.server.Machine.{cached_tree, cached_tree_from, plain_from}
use Rattle.zprotocol.specs.declared.world.event.Event.{Event}
use Rattle.zprotocol.specs.world.History.{History}
use Rattle.zprotocol.specs.world.LegalOrder.{IsLegalOrder}
use Rattle.zprotocol.specs.world.PlainTree.{service_of}
use Rattle.zprotocol.specs.world.World.{World, opening_world}
use Rattle.zprotocol.specs.world.Events.{happens, run}

-- a chain can begin with the tree: it is lawful, and each session has an id and a timeout that can
-- be granted
pub record CanStart (t : Tree) : Type 0 where
  pub lawful : IsLawful t
  pub granted : AllSessions (IsGranted t.limits.timeout t.zxid) t.sessions

-- a history is linearizable over the plain tree that begins with this tree, and every tree on the
-- way is lawful
abbrev pub IsExplainedFrom : Tree → History → Type 0
IsExplainedFrom t history = (order : List Operation) × IsLegalOrder IsLawful (service_of (plain_from t)) history order

-- the initial world of a chain that begins with this tree
abbrev pub opening_world_from : Tree → ℕ → ℕ → World (CachedState Tree)
opening_world_from t servers clients = opening_world (cached_tree_from t) servers clients

-- the world after events from it
abbrev pub world_after_from : Tree → ℕ → ℕ → List Event → World (CachedState Tree)
world_after_from t servers clients events = run (cached_tree_from t) (opening_world_from t servers clients) events

-- an event does the same whatever tree the machines began with
abbrev pub EventsForgetTheStart : Type 0
EventsForgetTheStart =
    (t : Tree) (w : World (CachedState Tree)) (event : Event) → happens (cached_tree_from t) w event ≡ happens cached_tree w event

-- so does a run
abbrev pub RunsForgetTheStart : Type 0
RunsForgetTheStart =
    (t : Tree) (w : World (CachedState Tree)) (events : List Event) → run (cached_tree_from t) w events ≡ run cached_tree w events
