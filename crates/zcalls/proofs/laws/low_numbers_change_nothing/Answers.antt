use Rattle.zcalls.proofs.Acting.{low_numbers_change_nothing}
use Rattle.zcalls.proofs.laws.low_numbers_change_nothing.Goals as goal

pub returns : goal.returns
returns g c = low_numbers_change_nothing
