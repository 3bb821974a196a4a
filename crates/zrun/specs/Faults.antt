-- Why a call wasn't invoked, and the fault of a reply of an unexpected kind.
use Rattle.zcalls.specs.declared.reply.Reply.{Reply}
use Rattle.zcalls.specs.declared.reply.Reply.TheVariants as reply
use Rattle.zprotocol.specs.declared.client.begin_fault.BeginFault.{BeginFault}
use Rattle.zprotocol.specs.declared.client.begin_fault.BeginFault.TheVariants as begin_fault
use Rattle.zrun.specs.declared.fault.Fault.{Fault}
use Rattle.zrun.specs.declared.fault.Fault.TheVariants as any
use Rattle.zrun.specs.declared.faults.Unanswered.{Unanswered}
use Rattle.zrun.specs.declared.faults.Unanswered.TheVariants.{Busy, Exhausted, Memory}

abbrev pub unanswered_by : BeginFault → Unanswered
unanswered_by begin_fault.Busy = Busy
unanswered_by begin_fault.Memory = Memory
unanswered_by begin_fault.Exhausted = Exhausted

abbrev pub fault_of : Reply → Fault
fault_of (reply.Refused refusal) = any.Refused refusal
fault_of (reply.MultiRefused part refusal) = any.PartRefused part refusal
fault_of _ = any.OtherReply
