use Rattle.zscript_text.proofs.OddLanes.{odd_among}
use Rattle.zscript_text.proofs.spaced.has_odd_in_lanes.Goals as goal

pub returns : goal.returns
returns g c = odd_among c.args.line.now c.args.at g.row.N c.requires.some.1 c.requires.are
