-- The log world: the same world over logs of entries in place of trees. It says which server holds
-- which entries. The world of the service follows from it: each tree is the one that its log leads
-- to.
use Rattle.std.specs.Prelude.{◌≡◌, ℕ, List, map}
use Rattle.zcalls.specs.declared.call.Entry.{Entry}
use Rattle.zprotocol.specs.server.Machine.{cached_tree, log_of, replay}
use Rattle.zprotocol.specs.server.support.Homomorphism.{message_with, view_with}
use Rattle.zprotocol.specs.declared.world.event.Event.{Event}
use Rattle.zprotocol.specs.world.World.{World, opening_world}
use Rattle.zprotocol.specs.world.Events.{is_enabled, run}

-- a world whose machines are mapped, in views and in snapshots in flight
abbrev pub world_with : {M N : Type 0} → (M → N) → World M → World N
world_with h w = record {
  servers = λ s. view_with h (w.servers s);
  clients = w.clients;
  master = w.master;
  failed = w.failed;
  links = λ from to. map (message_with h) (w.links from to);
  history = w.history;
}

-- after every list of events, the world over trees is the one over logs, with each log replayed; so
-- they have one history
abbrev pub LogWorldStandsForWorld : Type 0
LogWorldStandsForWorld =
    (servers clients : ℕ) (events : List Event)
    → run cached_tree (opening_world cached_tree servers clients) events
    ≡ world_with (replay cached_tree) (run (log_of cached_tree) (opening_world (log_of cached_tree) servers clients) events)

-- and the same events are enabled in both
abbrev pub LogWorldHasTheSameEnabled : Type 0
LogWorldHasTheSameEnabled = (w : World (List Entry)) (event : Event) → is_enabled (world_with (replay cached_tree) w) event ≡ is_enabled w event
