use Rattle.zdurable.proofs.Incarnations.{each_incarnation_is_a_part}
use Rattle.zdurable.proofs.laws.each_incarnation_is_a_part.Goals as goal

pub returns : goal.returns
returns c = each_incarnation_is_a_part
