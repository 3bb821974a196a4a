-- The processes of an initial state.
use Rattle.std.specs.Prelude.{ℕ, List, map}
use Rattle.std.specs.List.{range_with_len}
use Rattle.ztree.specs.Tree.{Tree}
use Rattle.zcalls.specs.Cached.{CachedState}
use Rattle.zprotocol.specs.declared.limits.TheConstants.{PROCESSES}
use Rattle.zprotocol.specs.declared.process.Process.{Process}
use Rattle.zprotocol.specs.declared.process.Process.TheVariants.{Master, Server, Client}
use Rattle.zprotocol.specs.Places.{process_at}
use Rattle.zprotocol.specs.client.View as client
use Rattle.zprotocol.specs.master.View.{opening_master}
use Rattle.zprotocol.specs.server.Machine.{Does, cached_tree, cached_tree_from}
use Rattle.zprotocol.specs.server.View.{opening_server}
use Rattle.zactor.specs.Acting.{TreeStanding}
use Rattle.zprotocol.specs.world.Does.{AtMaster, AtServer, AtClient}

-- the client of the last number, where the chain goes up to the first and that many take part
abbrev pub opening_client : ℕ → ℕ → ℕ → TreeStanding
opening_client last clients number = AtClient (client.opening_client last clients number)

-- a process, where the chain goes up to this server and this many clients take part
abbrev pub opening_actor : Does (CachedState Tree) → ℕ → ℕ → Process → TreeStanding
opening_actor machine last clients Master = AtMaster (opening_master last clients)
opening_actor machine last clients (Server s) = AtServer (opening_server machine last s)
opening_actor machine last clients (Client c) = opening_client last clients c

-- all processes
abbrev pub opening_actors : ℕ → ℕ → List TreeStanding
opening_actors last clients = map (λ place. opening_actor cached_tree last clients (process_at place)) (range_with_len 0 PROCESSES)

-- the same, where the chain begins with this tree
abbrev pub restored_actors : Tree → ℕ → ℕ → List TreeStanding
restored_actors t last clients = map (λ place. opening_actor (cached_tree_from t) last clients (process_at place)) (range_with_len 0 PROCESSES)
