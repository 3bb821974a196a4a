use Rattle.zresponses.proofs.Made.{made_nodes_have_this_stat}
use Rattle.zresponses.proofs.laws.made_nodes_have_this_stat.Goals as goal

pub returns : goal.returns
returns c = made_nodes_have_this_stat
