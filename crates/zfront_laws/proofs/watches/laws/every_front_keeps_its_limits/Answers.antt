use Rattle.zfront_laws.proofs.watches_lemmas.Limited.{every_front_keeps_its_limits}
use Rattle.zfront_laws.proofs.watches.laws.every_front_keeps_its_limits.Goals as goal

pub returns : goal.returns
returns c = every_front_keeps_its_limits
