use Rattle.zdaemon.proofs.Bases.{later_starts_tell_more}
use Rattle.zdaemon.proofs.laws.later_starts_tell_more.Goals as goal

pub returns : goal.returns
returns c = later_starts_tell_more
