-- Orders to the master.
use Rattle.std.specs.Prelude.{ℕ}
use Rattle.zprotocol.specs.declared.master.order.Order.{Order}
use Rattle.zprotocol.specs.declared.master.order.Order.TheVariants.{Join, Retire}

-- the server that an order is about
abbrev pub server_of : Order → ℕ
server_of (Join s) = s
server_of (Retire s) = s
