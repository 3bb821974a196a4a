-- The line of a start's fault is one of two.
use Rattle.std.proofs.Common.{inl, inr}
use Rattle.std.specs.Prelude.{◌⊎◌}
use Rattle.zdevices.specs.Device.{SinkRun}
use Rattle.zarguments.specs.Reporting.{IsReported}
use Rattle.zrun.specs.declared.faults.StartFault.{StartFault}
use Rattle.zrun.specs.declared.faults.StartFault.TheVariants.{Memory, Thread}
use Rattle.zrace.specs.Run.{start_fault_text}

pub reported_either : (faults : SinkRun) (fault : StartFault) → IsReported faults (start_fault_text fault)
    → IsReported faults (start_fault_text Memory) ⊎ IsReported faults (start_fault_text Thread)
reported_either faults Memory reported = inl reported
reported_either faults Thread reported = inr reported
