-- Faults of rows, as faults of records.
use Rattle.zsnapshots.specs.declared.fault.RowFault.{RowFault}
use Rattle.zsnapshots.specs.declared.fault.RowFault.TheVariants as row
use Rattle.zpeers.specs.declared.fault.PeerFault.{PeerFault}
use Rattle.zpeers.specs.declared.fault.PeerFault.TheVariants.{Row, Memory}

-- out of memory is the same fault for both
abbrev pub of_row : RowFault → PeerFault
of_row row.Memory = Memory
of_row fault = Row fault
