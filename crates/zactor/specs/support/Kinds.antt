-- What the program does with an input, by what a process holds.
use Rattle.std.specs.Prelude.{◌≡◌, ℕ, Option, None, Some}
use Rattle.zprotocol.specs.declared.client.begin_fault.BeginFault.{BeginFault}
use Rattle.zprotocol.specs.declared.client.begin_fault.BeginFault.TheVariants as begin_fault
use Rattle.zprotocol.specs.declared.message.Message.TheVariants as message
use Rattle.zserver.specs.Server.{TreeMessage}
use Rattle.zserver.specs.declared.stopped.Stopped.{Stopped}
use Rattle.zserver.specs.declared.stopped.Stopped.TheVariants as stopped
use Rattle.zserver.specs.declared.taken.Taken.{Taken}
use Rattle.zserver.specs.declared.taken.Taken.TheVariants as taken
use Rattle.zprotocol.specs.world.Does.{AtMaster, AtServer, AtClient, Out}
use Rattle.zactor.specs.declared.kind.Kind.{Kind}
use Rattle.zactor.specs.declared.kind.Kind.TheVariants.{Master, Server, Client, Gone}
use Rattle.zactor.specs.declared.done.Done.{Done}
use Rattle.zactor.specs.declared.done.Done.TheVariants.{Acted, Unheard, Stopped as HasStopped, Left}
use Rattle.zactor.specs.declared.refusal.Refusal.TheVariants as refusal
use Rattle.zactor.specs.declared.act_fault.ActFault.{ActFault}
use Rattle.zactor.specs.declared.act_fault.ActFault.TheVariants.{Refused, Memory}
use Rattle.zactor.specs.Acting.{TreeStanding}

-- its standing
abbrev pub standing_of : Kind → TreeStanding
standing_of (Master master) = AtMaster master
standing_of (Server server) = AtServer server.view
standing_of (Client client) = AtClient client
standing_of Gone = Out

-- a server that is held hasn't stopped
abbrev pub GoesOn : Kind → Type 0
GoesOn (Server server) = server.stopped ≡ None
GoesOn other = Unit {0}

-- it is neither a running server nor a client
abbrev pub IsRare : Kind → Type 0
IsRare (Server server) = ⊥
IsRare (Client client) = ⊥
IsRare other = Unit {0}

-- what became of a message that a server received
abbrev pub done_of : Taken → Done
done_of taken.Acted = Acted
done_of taken.Unheard = Unheard

-- how a server stopped at a message
abbrev pub end_of : Stopped → Done
end_of stopped.Memory = HasStopped
end_of stopped.Retired = Left

-- why a client didn't invoke a call
abbrev pub fault_of : BeginFault → ActFault
fault_of begin_fault.Memory = Memory
fault_of fault = Refused (refusal.Begin fault)

-- the number of the call that a message answers
abbrev pub answered_number : TreeMessage → Option ℕ
answered_number (message.Answer number reply) = Some number
answered_number other = None
