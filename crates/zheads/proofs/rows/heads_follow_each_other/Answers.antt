use Rattle.std.proofs.Common.{refl}
use Rattle.zprotocol.proofs.world_lemmas.Tables.{all_tables}
use Rattle.zheads.proofs.rows.heads_follow_each_other.Goals as goal

pub returns : goal.returns
unfolding all_tables
returns c = refl
