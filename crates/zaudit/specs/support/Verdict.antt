-- What the world's answer to a replayed event means.
use Rattle.std.specs.Prelude.{Bool, true, false, Result, Ok, Err, if◌then◌else◌}
use Rattle.zprotocol.specs.declared.world.event.Event.{Event}
use Rattle.zprotocol.specs.declared.world.event.Event.TheVariants.{Order}
use Rattle.zworld.specs.declared.did.Did.{Did}
use Rattle.zworld.specs.declared.did.Did.TheVariants as did
use Rattle.zaudit.specs.declared.faults.AuditFault.{AuditFault}
use Rattle.zaudit.specs.declared.faults.AuditFault.TheVariants.{Disorder, Memory}

-- the event is an order to the master, which may refuse it
abbrev pub asks_the_master : Event → Bool
asks_the_master (Order order) = true
asks_the_master other = false

-- what the answer means
abbrev pub verdict : Bool → Did → Result (Unit {0}) AuditFault
verdict may_be_refused did.Done = Ok tt
verdict may_be_refused (did.Idle cause) = if may_be_refused then Ok tt else Err Disorder
verdict may_be_refused did.Unheard = Err Memory
verdict may_be_refused did.Stopped = Err Memory
