use Rattle.zsnapshots.proofs.export_lemmas.Playing.{exports_make_no_ephemerals, exports_make_their_tree}
use Rattle.zsnapshots.proofs.export.laws.exports_make_their_tree.Goals as goal

pub returns : goal.returns
returns c = record { same = exports_make_their_tree; none = exports_make_no_ephemerals }
