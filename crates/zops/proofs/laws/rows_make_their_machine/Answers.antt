use Rattle.zops.proofs.RestoredLaws.{restored}
use Rattle.zops.proofs.laws.rows_make_their_machine.Goals as goal

pub returns : goal.returns
returns c = λ t applied settled few. restored t settled applied few
