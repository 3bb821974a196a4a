use Rattle.std.proofs.Common.{refl}
use Rattle.zcalls.proofs.rows.plain_tree_steps.Goals as goal

pub returns : goal.returns
returns c = record { opening = refl; update = λ t client update. refl; ask = λ t query. refl }
