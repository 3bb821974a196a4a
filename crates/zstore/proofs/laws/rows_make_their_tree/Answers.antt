use Rattle.zstore.proofs.Rebuilt.{rebuilt}
use Rattle.zstore.proofs.laws.rows_make_their_tree.Goals as goal

pub returns : goal.returns
returns c = rebuilt
