-- What became of an event that was asked for, in terms of the definitions.
use Rattle.std.specs.Prelude.{◌≡◌, Bool, true, false, nat_lt, Some, []}
use Rattle.zprotocol.specs.client.Table.{begin_fault}
use Rattle.zprotocol.specs.master.Table.{order_fault}
use Rattle.zprotocol.specs.declared.world.event.Event.{Event}
use Rattle.zprotocol.specs.declared.world.event.Event.TheVariants as event
use Rattle.zprotocol.specs.declared.world.outcome.Outcome.{Outcome}
use Rattle.zprotocol.specs.declared.world.outcome.Outcome.TheVariants as outcome
use Rattle.zworld.specs.declared.did.Did.{Did}
use Rattle.zworld.specs.declared.did.Did.TheVariants as became
use Rattle.zworld.specs.declared.did.IdleCause.{IdleCause}
use Rattle.zworld.specs.declared.did.IdleCause.TheVariants as cause
use Rattle.zworld.specs.Held.{Held, kept_world}

-- the event didn't happen
abbrev pub is_idle : Did → Bool
is_idle (became.Idle cause) = true
is_idle other = false

-- a server ran out of memory at the event
abbrev pub is_short : Did → Bool
is_short became.Unheard = true
is_short became.Stopped = true
is_short other = false

-- what became of an event, as an outcome
abbrev pub outcome_of : Did → Outcome
outcome_of became.Unheard = outcome.Unheard
outcome_of became.Stopped = outcome.Stopped
outcome_of other = outcome.Acted

-- why an event isn't enabled: the fault of the client or of the master, or no further reason
abbrev pub IsCause : Held → Event → IdleCause → Type 0
IsCause old (event.Begin client call) (cause.Begin fault) =
    (nat_lt client (kept_world old []).master.clients ≡ true) × (begin_fault ((kept_world old []).clients client) ≡ Some fault)
IsCause old (event.Begin client call) why = (why ≡ cause.Nothing) × (nat_lt client (kept_world old []).master.clients ≡ false)
IsCause old (event.Order order) (cause.Order fault) = order_fault (kept_world old []).master order ≡ Some fault
IsCause old (event.Order order) why = ⊥
IsCause old event why = why ≡ cause.Nothing

-- where an event didn't happen, this was why
abbrev pub HasCause : Held → Event → Did → Type 0
HasCause old event did = (why : IdleCause) → did ≡ became.Idle why → IsCause old event why
