use Rattle.std.proofs.Common.{◌≡◌, refl, sym, subst}
use Rattle.zprotocol.proofs.world_lemmas.Tables.{all_tables}
use Rattle.zheads.specs.support.HeadRows.{callers_saw, two_heads, one_after_the_other, made, Explains, two_creates}
use Rattle.zheads.proofs.OneLogs.{explained}
use Rattle.zheads.proofs.rows.one_log_explains_two_heads.Goals as goal

seen : callers_saw 3 two_heads ≡ one_after_the_other (made 1 0) (made 2 1)
unfolding all_tables
seen = refl

pub returns : goal.returns
returns c = subst (λ s. Explains s two_creates) (sym seen) explained
