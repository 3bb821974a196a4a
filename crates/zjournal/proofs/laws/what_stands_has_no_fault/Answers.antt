use Rattle.zjournal.proofs.Readings.{what_stands_has_no_fault}
use Rattle.zjournal.proofs.laws.what_stands_has_no_fault.Goals as goal

pub returns : goal.returns
returns c = what_stands_has_no_fault
