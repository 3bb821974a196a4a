-- What a clause says of what a thread did, and of the orders that the master followed.
use Rattle.std.specs.Prelude.{◌≡◌, false, List, [], ◌∷◌, ◌++◌, Option, option_to_list}
use Rattle.zprotocol.specs.declared.traces.trace.Act.{Act}
use Rattle.zprotocol.specs.declared.traces.trace.Act.TheVariants.{Ordered}
use Rattle.zprotocol.specs.declared.traces.trace.TraceEvent.{TraceEvent}
use Rattle.zprotocol.specs.declared.master.order.Order.{Order}
use Rattle.zthreads.specs.declared.endpoint.Endpoint.{Endpoint}
use Rattle.zthreads.specs.Endpoints.{IsEntered, is_cut_of, stamp_of_endpoint, trace_of}

-- it did this as its next event, unless its trace is cut
abbrev pub DidNext : Endpoint → Endpoint → Act → Type 0
DidNext a b act = IsEntered a b (stamp_of_endpoint b) act []

-- the order that the master followed by doing that, if it was one
abbrev pub order_of : Act → List Order
order_of (Ordered order) = order ∷ []
order_of other = []

-- the orders that it followed, oldest first
abbrev pub orders_in : List TraceEvent → List Order
orders_in [] = []
orders_in (e ∷ es) = order_of e.act ++ orders_in es

-- what it received is what it followed, and then what waits to be followed, unless its trace is cut
abbrev pub HasFollowed : Endpoint → List Order → Option Order → Type 0
HasFollowed d received waiting = is_cut_of d ≡ false → received ≡ orders_in (trace_of d) ++ option_to_list waiting
