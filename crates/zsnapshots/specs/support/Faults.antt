-- Which fault of a row it is.
use Rattle.zstore.specs.declared.restore_fault.RestoreFault.{RestoreFault}
use Rattle.zstore.specs.declared.restore_fault.RestoreFault.TheVariants as restore
use Rattle.zwire.specs.declared.fault.FrameFault.{FrameFault}
use Rattle.zwire.specs.declared.fault.FrameFault.TheVariants as frame
use Rattle.zsnapshots.specs.declared.fault.RowFault.{RowFault}
use Rattle.zsnapshots.specs.declared.fault.RowFault.TheVariants.{Cut, TooLong, Contents, Unlawful, Memory}

-- a frame's
abbrev pub of_frame : FrameFault → RowFault
of_frame frame.Cut = Cut
of_frame frame.TooLong = TooLong
of_frame (frame.Contents fault) = Contents fault
of_frame frame.Memory = Memory

-- a refused row's
abbrev pub of_restoring : RestoreFault → RowFault
of_restoring restore.Unlawful = Unlawful
of_restoring restore.Memory = Memory
