-- The orders to the master, as events.
use Rattle.std.specs.Prelude.{ℕ}
use Rattle.zprotocol.specs.declared.master.order.Order.TheVariants as order
use Rattle.zprotocol.specs.declared.world.event.Event.{Event}
use Rattle.zprotocol.specs.declared.world.event.Event.TheVariants.{Order}

-- a server is asked to join
abbrev pub Join : ℕ → Event
Join s = Order (order.Join s)

-- a member is ordered to leave
abbrev pub Retire : ℕ → Event
Retire s = Order (order.Retire s)
