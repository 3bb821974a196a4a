-- The outcome of an order, and what the master's thread has still to do for the console.
use Rattle.std.specs.Prelude.{Bool, true, false, List, [], ◌∷◌, Option, None, Some}
use Rattle.zprotocol.specs.declared.master.order_fault.OrderFault.{OrderFault}
use Rattle.zprotocol.specs.master.View.{MasterView}
use Rattle.zprotocol.specs.master.Table.{order_fault}
use Rattle.zprotocol.specs.declared.master.order.Order.{Order}
use Rattle.zchannels.specs.declared.outcome.OrderOutcome.{OrderOutcome}
use Rattle.zchannels.specs.declared.outcome.OrderOutcome.TheVariants.{Obeyed, Refused}
use Rattle.zchannels.specs.Outcomes.{order_of}
use Rattle.zthreads.specs.declared.owed.Owed.{Owed}
use Rattle.zthreads.specs.declared.owed.Owed.TheVariants.{Nothing, Deed, Word}

-- the outcome of an order, with that fault or none
abbrev pub outcome_by : Order → Option OrderFault → OrderOutcome
outcome_by order None = Obeyed order
outcome_by order (Some fault) = Refused order fault

-- the outcome of an order by the master's table, where the master has that view
abbrev pub outcome_at : MasterView → Order → OrderOutcome
outcome_at v order = outcome_by order (order_fault v order)

-- whether anything is to be done
abbrev pub owes : Owed → Bool
owes Nothing = false
owes (Deed order) = true
owes (Word outcome) = true

-- the order that waits to be followed
abbrev pub unfollowed : Owed → Option Order
unfollowed Nothing = None
unfollowed (Deed order) = Some order
unfollowed (Word outcome) = None

-- the order whose outcome wasn't sent yet
abbrev pub unsaid : Owed → List Order
unsaid Nothing = []
unsaid (Deed order) = order ∷ []
unsaid (Word outcome) = order_of outcome ∷ []
