use Rattle.std.proofs.Common.{refl}
use Rattle.zprotocol.proofs.world.laws.calls_do_the_plain_step.Goals as goal

pub returns : goal.returns
returns c = record { opening = refl; update = λ t client update. refl; query = λ t client query. refl }
