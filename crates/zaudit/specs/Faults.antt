-- The names of an audit's faults: this project's profile.
use Rattle.std.specs.Prelude.{ℕ, List, codes}
use Rattle.zaudit.specs.declared.faults.AuditFault.{AuditFault}
use Rattle.zaudit.specs.declared.faults.AuditFault.TheVariants.{Cut, Disorder, Mismatch, Memory}

-- the name of a fault
abbrev pub fault_name : AuditFault → List ℕ
fault_name Cut = codes "Cut"
fault_name Disorder = codes "Disorder"
fault_name Mismatch = codes "Mismatch"
fault_name Memory = codes "Memory"
