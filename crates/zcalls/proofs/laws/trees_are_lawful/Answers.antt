use Rattle.zcalls.proofs.LawfulCalls.{trees_are_lawful}
use Rattle.zcalls.proofs.laws.trees_are_lawful.Goals as goal

pub returns : goal.returns
returns c = trees_are_lawful
