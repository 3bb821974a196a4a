use Rattle.zcalls.proofs.Numbers.{numbers_differ}
use Rattle.zcalls.proofs.laws.numbers_differ.Goals as goal

pub returns : goal.returns
returns c = numbers_differ
