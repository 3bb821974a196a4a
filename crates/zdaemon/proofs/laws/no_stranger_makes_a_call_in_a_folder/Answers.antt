use Rattle.zdaemon.proofs.Strangers.{no_stranger_in_folder}
use Rattle.zdaemon.proofs.laws.no_stranger_makes_a_call_in_a_folder.Goals as goal

pub returns : goal.returns
returns g c = no_stranger_in_folder g.row.R.Denot c.no_stranger_makes_a_call.ensures
