-- What the state of a process shows, and what became of an input.
use Rattle.std.specs.Prelude.{◌≡◌, ℕ, Option, None, Some}
use Rattle.zcalls.specs.declared.reply.Reply.{Reply}
use Rattle.zprotocol.specs.declared.client.begin_fault.BeginFault.{BeginFault}
use Rattle.zprotocol.specs.declared.client.begin_fault.BeginFault.TheVariants as begin_fault
use Rattle.zprotocol.specs.client.View.{ClientView, opening_client}
use Rattle.zprotocol.specs.master.View.{MasterView, opening_master}
use Rattle.zprotocol.specs.world.Does.{AtClient, AtMaster}
use Rattle.zactor.specs.declared.done.Done.{Done}
use Rattle.zactor.specs.declared.done.Done.TheVariants.{Answered, Began}
use Rattle.zactor.specs.declared.act_fault.ActFault.{ActFault}
use Rattle.zactor.specs.declared.act_fault.ActFault.TheVariants.{Refused}
use Rattle.zactor.specs.declared.refusal.Refusal.TheVariants as refusal
use Rattle.zactor.specs.Acting.{reply_in}
use Rattle.zserver.specs.Server.{TreeMessage}
use Rattle.zthreads.specs.Endpoints.{TreeStanding}

-- what the master knows; of another process this says nothing
abbrev pub master_known : TreeStanding → MasterView
master_known (AtMaster v) = v
master_known other = opening_master 0 0

-- what a client knows; of another process this says nothing
abbrev pub client_known : TreeStanding → ClientView
client_known (AtClient v) = v
client_known other = opening_client 0 0 0

-- the reply that a client returns at a message, by what became of it
abbrev pub reply_heard : TreeMessage → Done → Option Reply
reply_heard m (Answered number) = reply_in m
reply_heard m done = None

-- a client invoked a call
abbrev pub HasBegun : Done → Type 0
HasBegun done = (number : ℕ) × (done ≡ Began number)

-- why a client doesn't invoke a call
abbrev pub begin_fault_of : ActFault → BeginFault
begin_fault_of (Refused (refusal.Begin fault)) = fault
begin_fault_of fault = begin_fault.Memory
