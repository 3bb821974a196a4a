-- The events that repair and extend the chain: servers receive what the master sends, the master
-- receives messages, and it obeys orders, by which servers join and members leave.
use Rattle.std.specs.Prelude.{ℕ}
use Rattle.zprotocol.specs.declared.process.Process.{Process}
use Rattle.zprotocol.specs.declared.process.Process.TheVariants.{Master, Server}
use Rattle.zprotocol.specs.declared.master.order.Order as master
use Rattle.zprotocol.specs.declared.world.event.Event.TheVariants.{Take, Order}
use Rattle.zlinearizability.specs.chain.Events.{KeepsSound}

-- a server receives any message of the master
abbrev pub ServersHearMaster : Type 0
ServersHearMaster = (s : ℕ) → KeepsSound (Take Master (Server s))

-- the master receives a message: Have, Joined, Gone, or one that is ignored
abbrev pub MasterHears : Type 0
MasterHears = (from : Process) → KeepsSound (Take from Master)

-- the master obeys an order: a server joins, or a member is ordered to leave
abbrev pub MasterObeys : Type 0
MasterObeys = (order : master.Order) → KeepsSound (Order order)
