-- The events in which servers receive messages from servers and clients.
use Rattle.std.specs.Prelude.{ℕ}
use Rattle.zprotocol.specs.declared.process.Process.TheVariants.{Server, Client}
use Rattle.zprotocol.specs.declared.world.event.Event.TheVariants.{Take}
use Rattle.zlinearizability.specs.chain.Events.{KeepsSound}

-- a server receives a message of a server: Update, Ack, Snapshot, or one that is ignored
abbrev pub ServersHearServers : Type 0
ServersHearServers = (p s : ℕ) → KeepsSound (Take (Server p) (Server s))

-- a server receives a message of a client: Submit, Query, or one that is ignored
abbrev pub ServersHearClients : Type 0
ServersHearClients = (c s : ℕ) → KeepsSound (Take (Client c) (Server s))
