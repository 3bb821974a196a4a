-- The outcomes of orders.
use Rattle.std.specs.Prelude.{◌≡◌, List, ◌++◌, map}
use Rattle.zprotocol.specs.declared.master.order.Order.{Order}
use Rattle.zchannels.specs.declared.outcome.OrderOutcome.{OrderOutcome}
use Rattle.zchannels.specs.declared.outcome.OrderOutcome.TheVariants.{Obeyed, Refused}
use Rattle.zchannels.specs.declared.console.Inbox.{Inbox}
use Rattle.zchannels.specs.Console.{said, taken_of}

-- the order of an outcome
abbrev pub order_of : OrderOutcome → Order
order_of (Obeyed order) = order
order_of (Refused order fault) = order

-- each order that was received has its outcome, in order, except the last ones
abbrev pub AreSaid : Inbox → List Order → Type 0
AreSaid i unsaid = taken_of i ≡ map order_of (said i) ++ unsaid
